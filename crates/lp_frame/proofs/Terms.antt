-- Terms over the split columns: their sum, and what they keep of the terms that they come from.
use Rattle.std.proofs.Common.{◌≡◌, ◌<◌, ◌≤◌, ◌+◌, ℕ, zero, suc, true, List, [], ◌∷◌, ◌++◌, length, map, drop, get_or, ℤ, pos, negsuc, neg_ℤ, ◌+ℤ◌, ◌*ℤ◌, ◌&&◌, nat_le, nat_lt, arith, refl, ap, ◌∙◌, add-one, drop-cons}
use Rattle.std.proofs.lemmas.Int.{ints}
use Rattle.std.proofs.lemmas.Bool.Decides.{nat_tests}
use Rattle.std.specs.List.{list_all}
use Rattle.int_linear.specs.Terms.{dot}
use Rattle.int_linear.proofs.Ring.{products}
use Rattle.lp_rows.specs.Holding.{ids_below}
use Rattle.lp_rows.specs.Rows.{ascends_from}
use Rattle.lp_rows.specs.declared.columns.Col.{Col}
use Rattle.lp_rows.specs.declared.columns.Sign.{Sign}
use Rattle.lp_rows.specs.declared.columns.Sign.TheVariants.{Free, Nonneg}
use Rattle.lp_frame.specs.declared.force.AtMost.{AtMost}
use Rattle.lp_frame.specs.Force.{are_terms, is_row}
use Rattle.fractions.specs.Width.{is_narrow}
use Rattle.lp_frame.specs.Split.{width_of, place, sign_at, split_term, split_terms, joined, lifted}
use Rattle.lp_frame.specs.Standard.{split_row}
use Rattle.lp_frame.proofs.Places.{place_next, place_within, place_mono, place_zero}
use Rattle.lp_frame.proofs.Both.{both, first, second}

-- one term's sum over its columns
dot_term : (s : Sign) (k : ℕ) (a : ℤ) (rest : List (ℕ × ℤ)) (w : ℕ → ℤ) → dot (split_term s k a ++ rest) w ≡ a *ℤ joined s w k +ℤ dot rest w
dot_term Free k a rest w = simp products (omega (arith, ints))
dot_term Nonneg k a rest w = refl

-- the sum over the split columns is the sum at the lifted numbers
pub dot_split : (cols : List Col) (ts : List (ℕ × ℤ)) (w : ℕ → ℤ) → dot (split_terms cols ts) w ≡ dot ts (lifted cols w)
dot_split cols [] w = refl
dot_split cols (t ∷ ts) w =
    dot_term (sign_at cols t.0) (place cols t.0) t.1 (split_terms cols ts) w ∙ ap (λ z. t.1 *ℤ lifted cols w t.0 +ℤ z) (dot_split cols ts w)

-- a sum reads the numbers at its ids alone
pub dot_same : (n : ℕ) (ts : List (ℕ × ℤ)) (v w : ℕ → ℤ) → ids_below n ts ≡ true → ((j : ℕ) → j < n → v j ≡ w j) → dot ts v ≡ dot ts w
dot_same n [] v w h same = refl
dot_same n (t ∷ ts) v w h same =
    let below : t.0 < n = (let b = first (nat_lt t.0 n) (ids_below n ts) h in grind (arith, nat_tests)) in
    rw (same t.0 below, dot_same n ts v w (second (nat_lt t.0 n) (ids_below n ts) h) same)

-- one term more
pub split_terms_at : (cols : List Col) (ts : List (ℕ × ℤ)) (i : ℕ) (d : ℕ × ℤ) → i < length ts
    → split_terms cols (drop i ts) ≡ split_term (sign_at cols (get_or ts i d).0) (place cols (get_or ts i d).0) (get_or ts i d).1 ++ split_terms cols (drop (i + 1) ts)
split_terms_at cols ts i d h = rw (add-one, drop-cons ts i d)

-- what the split terms keep
term_below : (s : Sign) (n k : ℕ) (a : ℤ) (rest : List (ℕ × ℤ)) → (k + width_of s) ≤ n → ids_below n rest ≡ true → ids_below n (split_term s k a ++ rest) ≡ true
term_below Free n k a rest h r = both (nat_lt k n) (nat_lt (k + 1) n && ids_below n rest) (grind (arith, nat_tests)) (both (nat_lt (k + 1) n) (ids_below n rest) (grind (arith, nat_tests)) r)
term_below Nonneg n k a rest h r = both (nat_lt k n) (ids_below n rest) (grind (arith, nat_tests)) r

pub split_below : (cols : List Col) (ts : List (ℕ × ℤ)) → ids_below (length cols) ts ≡ true → ids_below (place cols (length cols)) (split_terms cols ts) ≡ true
split_below cols [] h = refl
split_below cols (t ∷ ts) h =
    let below : t.0 < length cols = (let b = first (nat_lt t.0 (length cols)) (ids_below (length cols) ts) h in grind (arith, nat_tests)) in
    term_below (sign_at cols t.0) (place cols (length cols)) (place cols t.0) t.1 (split_terms cols ts) (place_within cols t.0 below) (split_below cols ts (second (nat_lt t.0 (length cols)) (ids_below (length cols) ts) h))

-- a smaller start
ascends_down : (least less : ℕ) (ts : List (ℕ × ℤ)) → less ≤ least → ascends_from least ts ≡ true → ascends_from less ts ≡ true
ascends_down least less [] h a = refl
ascends_down least less (t ∷ ts) h a =
    let b = first (nat_le least t.0) (ascends_from (suc t.0) ts) a in
    both (nat_le less t.0) (ascends_from (suc t.0) ts) (grind (arith, nat_tests)) (second (nat_le least t.0) (ascends_from (suc t.0) ts) a)

term_ascends : (s : Sign) (least k : ℕ) (a : ℤ) (rest : List (ℕ × ℤ)) → least ≤ k → ascends_from (k + width_of s) rest ≡ true → ascends_from least (split_term s k a ++ rest) ≡ true
term_ascends Free least k a rest h r =
    both (nat_le least k) (nat_le (suc k) (k + 1) && ascends_from (suc (k + 1)) rest) (grind (arith, nat_tests))
    (both (nat_le (suc k) (k + 1)) (ascends_from (suc (k + 1)) rest) (grind (arith, nat_tests)) (let e : suc (k + 1) ≡ k + 2 = omega arith in rw e r))
term_ascends Nonneg least k a rest h r = both (nat_le least k) (ascends_from (suc k) rest) (grind (arith, nat_tests)) (let e : suc k ≡ k + 1 = omega arith in rw e r)

pub split_ascends : (cols : List Col) (ts : List (ℕ × ℤ)) (least : ℕ) → ids_below (length cols) ts ≡ true → ascends_from least ts ≡ true → ascends_from (place cols least) (split_terms cols ts) ≡ true
split_ascends cols [] least b a = refl
split_ascends cols (t ∷ ts) least b a =
    let below : t.0 < length cols = (let f = first (nat_lt t.0 (length cols)) (ids_below (length cols) ts) b in grind (arith, nat_tests)) in
    let above : least ≤ t.0 = (let f = first (nat_le least t.0) (ascends_from (suc t.0) ts) a in grind (arith, nat_tests)) in
    let rest = split_ascends cols ts (suc t.0) (second (nat_lt t.0 (length cols)) (ids_below (length cols) ts) b) (second (nat_le least t.0) (ascends_from (suc t.0) ts) a) in
    term_ascends (sign_at cols t.0) (place cols least) (place cols t.0) t.1 (split_terms cols ts) (place_mono cols least t.0 above) (rw (← place_next cols t.0 below) rest)

narrow_neg : (a : ℤ) → is_narrow a ≡ true → is_narrow (neg_ℤ a) ≡ true
narrow_neg (pos zero) h = h
narrow_neg (pos (suc n)) h = h
narrow_neg (negsuc n) h = h

term_narrow : (s : Sign) (k : ℕ) (a : ℤ) (rest : List (ℕ × ℤ)) → is_narrow a ≡ true → list_all (λ t. is_narrow t.1) rest ≡ true → list_all (λ t. is_narrow t.1) (split_term s k a ++ rest) ≡ true
term_narrow Free k a rest h r = both (is_narrow a) (is_narrow (neg_ℤ a) && list_all (λ t. is_narrow t.1) rest) h (both (is_narrow (neg_ℤ a)) (list_all (λ t. is_narrow t.1) rest) (narrow_neg a h) r)
term_narrow Nonneg k a rest h r = both (is_narrow a) (list_all (λ t. is_narrow t.1) rest) h r

pub split_narrow : (cols : List Col) (ts : List (ℕ × ℤ)) → list_all (λ t. is_narrow t.1) ts ≡ true → list_all (λ t. is_narrow t.1) (split_terms cols ts) ≡ true
split_narrow cols [] h = refl
split_narrow cols (t ∷ ts) h = term_narrow (sign_at cols t.0) (place cols t.0) t.1 (split_terms cols ts) (first (is_narrow t.1) (list_all (λ u. is_narrow u.1) ts) h) (split_narrow cols ts (second (is_narrow t.1) (list_all (λ u. is_narrow u.1) ts) h))

-- the parts of the test of terms
pub terms_ascend : (n : ℕ) (ts : List (ℕ × ℤ)) → are_terms n ts ≡ true → ascends_from 0 ts ≡ true
terms_ascend n ts h = first (ascends_from 0 ts) (ids_below n ts) (first (ascends_from 0 ts && ids_below n ts) (list_all (λ t. is_narrow t.1) ts) h)

pub terms_below : (n : ℕ) (ts : List (ℕ × ℤ)) → are_terms n ts ≡ true → ids_below n ts ≡ true
terms_below n ts h = second (ascends_from 0 ts) (ids_below n ts) (first (ascends_from 0 ts && ids_below n ts) (list_all (λ t. is_narrow t.1) ts) h)

pub terms_narrow : (n : ℕ) (ts : List (ℕ × ℤ)) → are_terms n ts ≡ true → list_all (λ t. is_narrow t.1) ts ≡ true
terms_narrow n ts h = second (ascends_from 0 ts && ids_below n ts) (list_all (λ t. is_narrow t.1) ts) h

pub split_are_terms : (cols : List Col) (ts : List (ℕ × ℤ)) → are_terms (length cols) ts ≡ true → are_terms (place cols (length cols)) (split_terms cols ts) ≡ true
split_are_terms cols ts h =
    let n = place cols (length cols) in
    let us = split_terms cols ts in
    let below = terms_below (length cols) ts h in
    let ascends : ascends_from 0 (split_terms cols ts) ≡ true = (let a = split_ascends cols ts 0 below (terms_ascend (length cols) ts h) in rw (place_zero cols) at a) in
    both (ascends_from 0 us && ids_below n us) (list_all (λ t. is_narrow t.1) us)
    (both (ascends_from 0 us) (ids_below n us) ascends (split_below cols ts below))
    (split_narrow cols ts (terms_narrow (length cols) ts h))

pub split_is_row : (cols : List Col) (row : AtMost) → is_row (length cols) row ≡ true → is_row (place cols (length cols)) (split_row cols row) ≡ true
split_is_row cols row h =
    both (are_terms (place cols (length cols)) (split_terms cols row.terms)) (is_narrow row.bound)
    (split_are_terms cols row.terms (first (are_terms (length cols) row.terms) (is_narrow row.bound) h))
    (second (are_terms (length cols) row.terms) (is_narrow row.bound) h)

pub split_are_rows : (cols : List Col) (rows : List AtMost) → list_all (is_row (length cols)) rows ≡ true → list_all (is_row (place cols (length cols))) (map (split_row cols) rows) ≡ true
split_are_rows cols [] h = refl
split_are_rows cols (row ∷ rows) h =
    both (is_row (place cols (length cols)) (split_row cols row)) (list_all (is_row (place cols (length cols))) (map (split_row cols) rows))
    (split_is_row cols row (first (is_row (length cols) row) (list_all (is_row (length cols)) rows) h))
    (split_are_rows cols rows (second (is_row (length cols) row) (list_all (is_row (length cols)) rows) h))

-- what the test of terms says of the term at a place, and of those after it
pub below_here : (n : ℕ) (ts : List (ℕ × ℤ)) (i : ℕ) (d : ℕ × ℤ) → i < length ts → ids_below n (drop i ts) ≡ true → (get_or ts i d).0 < n
below_here n ts i d h b =
    let k = rw (drop-cons ts i d) at b in
    let f = first (nat_lt (get_or ts i d).0 n) (ids_below n (drop (suc i) ts)) k in
    grind (arith, nat_tests)

pub below_after : (n : ℕ) (ts : List (ℕ × ℤ)) (i : ℕ) (d : ℕ × ℤ) → i < length ts → ids_below n (drop i ts) ≡ true → ids_below n (drop (i + 1) ts) ≡ true
below_after n ts i d h b =
    let k = rw (drop-cons ts i d) at b in
    rw add-one (second (nat_lt (get_or ts i d).0 n) (ids_below n (drop (suc i) ts)) k)

pub narrow_here : (ts : List (ℕ × ℤ)) (i : ℕ) (d : ℕ × ℤ) → i < length ts → list_all (λ t. is_narrow t.1) (drop i ts) ≡ true → is_narrow (get_or ts i d).1 ≡ true
narrow_here ts i d h b =
    let k = rw (drop-cons ts i d) at b in
    first (is_narrow (get_or ts i d).1) (list_all (λ t. is_narrow t.1) (drop (suc i) ts)) k

pub narrow_after : (ts : List (ℕ × ℤ)) (i : ℕ) (d : ℕ × ℤ) → i < length ts → list_all (λ t. is_narrow t.1) (drop i ts) ≡ true → list_all (λ t. is_narrow t.1) (drop (i + 1) ts) ≡ true
narrow_after ts i d h b =
    let k = rw (drop-cons ts i d) at b in
    rw add-one (second (is_narrow (get_or ts i d).1) (list_all (λ t. is_narrow t.1) (drop (suc i) ts)) k)
