-- Rows of which no variable moved narrow nothing.
use Rattle.std.proofs.Common.{◌≡◌, ℕ, zero, suc, ◌<◌, ℤ, ◌≤ℤ◌, pos, Bool, true, false, ◌||◌, nat_eq, List, [], ◌∷◌, ◌++◌, length, get_or, refl, ap, sym, ◌∙◌, arith, Option, None, Some, if◌then◌else◌, ◌⊎◌, inl, inr}
use Rattle.std.specs.Prelude.{slice_index_or, int_lt}
use Rattle.std.proofs.lemmas.Bool.Decides.{nat_tests}
use Rattle.std.proofs.lemmas.Int.{ints}
use Rattle.lp_rows.specs.declared.kinds.Kind.{Kind}
use Rattle.lp_rows.specs.declared.kinds.Rel.{Rel}
use Rattle.lp_rows.specs.declared.kinds.Rel.TheVariants.{AtMost, AtLeast, Equal}
use Rattle.lp_rows.specs.Rows.{RowValue}
use Rattle.bound_propagation.specs.Boxes.{Box, halves, is_nonneg, turned}
use Rattle.bound_propagation.specs.Kept.{BoundsValue, box_of}
use Rattle.bound_propagation.specs.Moving.{has_moved, does_any_move, HaveStayed, IsIdle, AreOthersIdle}
use Rattle.bound_propagation.specs.Narrowing.{AreAlike, IsSettled, are_crossed_at}
use Rattle.bound_propagation.specs.Propagated.{Limit, low_from, high_from, low_by, high_by, greater, lesser, less, both_sums, least_of_term, least_of, times, limits, limits_from, limits_of_halves, kept_or}
use Rattle.bound_propagation.proofs.Alike.{low_more, high_more}

-- ---- ends in order: one that is missing is the lowest of lows and the highest of highs
abbrev pub IsUnder : Option ℤ → Option ℤ → Type 0
IsUnder None y = Unit
IsUnder (Some a) None = ⊥
IsUnder (Some a) (Some b) = a ≤ℤ b

abbrev pub IsOver : Option ℤ → Option ℤ → Type 0
IsOver None y = Unit
IsOver (Some a) None = ⊥
IsOver (Some a) (Some b) = b ≤ℤ a

pub under_itself : (x : Option ℤ) → IsUnder x x
under_itself None = tt
under_itself (Some a) = omega (arith, ints)

pub over_itself : (x : Option ℤ) → IsOver x x
over_itself None = tt
over_itself (Some a) = omega (arith, ints)

pub under_both : (x y z : Option ℤ) → IsUnder x y → IsUnder y z → IsUnder x z
under_both None y z p q = tt
under_both (Some a) None z p q = absurd p
under_both (Some a) (Some b) None p q = absurd q
under_both (Some a) (Some b) (Some c) p q = omega (arith, ints, p, q)

pub over_both : (x y z : Option ℤ) → IsOver x y → IsOver y z → IsOver x z
over_both None y z p q = tt
over_both (Some a) None z p q = absurd p
over_both (Some a) (Some b) None p q = absurd q
over_both (Some a) (Some b) (Some c) p q = omega (arith, ints, p, q)

under_same : (x y : Option ℤ) → IsUnder x y → IsUnder y x → x ≡ y
under_same None None p q = refl
under_same None (Some b) p q = absurd q
under_same (Some a) None p q = absurd p
under_same (Some a) (Some b) p q = let e : a ≡ b = omega (arith, ints, p, q) in ap Some e

over_same : (x y : Option ℤ) → IsOver x y → IsOver y x → x ≡ y
over_same None None p q = refl
over_same None (Some b) p q = absurd q
over_same (Some a) None p q = absurd p
over_same (Some a) (Some b) p q = let e : a ≡ b = omega (arith, ints, p, q) in ap Some e

not_less : (a b : ℤ) → int_lt a b ≡ false → b ≤ℤ a
not_less a b e = grind (arith, ints, nat_tests)

is_less : (a b : ℤ) → int_lt a b ≡ true → a ≤ℤ b
is_less a b e = grind (arith, ints, nat_tests)

-- the greater of two is over both, and is the first where the second is under it
greater_first : (x y : Option ℤ) → IsUnder x (greater x y)
greater_first None y = tt
greater_first (Some a) None = omega (arith, ints)
greater_first (Some a) (Some b) = step (int_lt a b) refl
  where
    step : (t : Bool) → int_lt a b ≡ t → IsUnder (Some a) (if t then Some b else Some a)
    step true e = is_less a b e
    step false e = omega (arith, ints)

greater_second : (x y : Option ℤ) → IsUnder y (greater x y)
greater_second None y = under_itself y
greater_second (Some a) None = tt
greater_second (Some a) (Some b) = step (int_lt a b) refl
  where
    step : (t : Bool) → int_lt a b ≡ t → IsUnder (Some b) (if t then Some b else Some a)
    step true e = omega (arith, ints)
    step false e = not_less a b e

greater_is : (x y : Option ℤ) → IsUnder y x → greater x y ≡ x
greater_is None None u = refl
greater_is None (Some b) u = absurd u
greater_is (Some a) None u = refl
greater_is (Some a) (Some b) u = step (int_lt a b) refl
  where
    step : (t : Bool) → int_lt a b ≡ t → (if t then Some b else Some a) ≡ Some a
    step true e = absurd (grind (arith, ints, nat_tests))
    step false e = refl

lesser_first : (x y : Option ℤ) → IsOver x (lesser x y)
lesser_first None y = tt
lesser_first (Some a) None = omega (arith, ints)
lesser_first (Some a) (Some b) = step (int_lt b a) refl
  where
    step : (t : Bool) → int_lt b a ≡ t → IsOver (Some a) (if t then Some b else Some a)
    step true e = is_less b a e
    step false e = omega (arith, ints)

lesser_second : (x y : Option ℤ) → IsOver y (lesser x y)
lesser_second None y = over_itself y
lesser_second (Some a) None = tt
lesser_second (Some a) (Some b) = step (int_lt b a) refl
  where
    step : (t : Bool) → int_lt b a ≡ t → IsOver (Some b) (if t then Some b else Some a)
    step true e = omega (arith, ints)
    step false e = not_less b a e

lesser_is : (x y : Option ℤ) → IsOver y x → lesser x y ≡ x
lesser_is None None u = refl
lesser_is None (Some b) u = absurd u
lesser_is (Some a) None u = refl
lesser_is (Some a) (Some b) u = step (int_lt b a) refl
  where
    step : (t : Bool) → int_lt b a ≡ t → (if t then Some b else Some a) ≡ Some a
    step true e = absurd (grind (arith, ints, nat_tests))
    step false e = refl

-- ---- limits only narrow
low_grows : (k : Kind) (j : ℕ) (ls : List Limit) (x : Option ℤ) → IsUnder x (low_from k j ls x)
low_grows k j [] x = under_itself x
low_grows k j (l ∷ ls) x = step (nat_eq j l.of) (low_grows k j ls)
  where
    step : (b : Bool) → ((y : Option ℤ) → IsUnder y (low_from k j ls y)) → IsUnder x (low_from k j ls (if b then greater x (low_by k l.times l.most) else x))
    step true below = under_both x (greater x (low_by k l.times l.most)) (low_from k j ls (greater x (low_by k l.times l.most))) (greater_first x (low_by k l.times l.most)) (below (greater x (low_by k l.times l.most)))
    step false below = below x

high_falls : (k : Kind) (j : ℕ) (ls : List Limit) (x : Option ℤ) → IsOver x (high_from k j ls x)
high_falls k j [] x = over_itself x
high_falls k j (l ∷ ls) x = step (nat_eq j l.of) (high_falls k j ls)
  where
    step : (b : Bool) → ((y : Option ℤ) → IsOver y (high_from k j ls y)) → IsOver x (high_from k j ls (if b then lesser x (high_by k l.times l.most) else x))
    step true below = over_both x (lesser x (high_by k l.times l.most)) (high_from k j ls (lesser x (high_by k l.times l.most))) (lesser_first x (high_by k l.times l.most)) (below (lesser x (high_by k l.times l.most)))
    step false below = below x

-- where limits leave a low as it is, so do the first of them, and so do those behind
low_front : (k : Kind) (j : ℕ) (ls ms : List Limit) (x : Option ℤ) → low_from k j (ls ++ ms) x ≡ x → low_from k j ls x ≡ x
low_front k j ls ms x e =
    let y = low_from k j ls x in
    let up : IsUnder y (low_from k j ms y) = low_grows k j ms y in
    let same : low_from k j ms y ≡ x = sym (low_more k j ls ms x) ∙ e in
    sym (under_same x y (low_grows k j ls x) (rw same at up))

low_back : (k : Kind) (j : ℕ) (ls ms : List Limit) (x : Option ℤ) → low_from k j (ls ++ ms) x ≡ x → low_from k j ms x ≡ x
low_back k j ls ms x e = ap (low_from k j ms) (sym (low_front k j ls ms x e)) ∙ sym (low_more k j ls ms x) ∙ e

high_front : (k : Kind) (j : ℕ) (ls ms : List Limit) (x : Option ℤ) → high_from k j (ls ++ ms) x ≡ x → high_from k j ls x ≡ x
high_front k j ls ms x e =
    let y = high_from k j ls x in
    let up : IsOver y (high_from k j ms y) = high_falls k j ms y in
    let same : high_from k j ms y ≡ x = sym (high_more k j ls ms x) ∙ e in
    sym (over_same x y (high_falls k j ls x) (rw same at up))

high_back : (k : Kind) (j : ℕ) (ls ms : List Limit) (x : Option ℤ) → high_from k j (ls ++ ms) x ≡ x → high_from k j ms x ≡ x
high_back k j ls ms x e = ap (high_from k j ms) (sym (high_front k j ls ms x e)) ∙ sym (high_more k j ls ms x) ∙ e

-- limits that leave a low as it is leave a higher one too
low_higher : (k : Kind) (j : ℕ) (ls : List Limit) (x y : Option ℤ) → low_from k j ls x ≡ x → IsUnder x y → low_from k j ls y ≡ y
low_higher k j [] x y e u = refl
low_higher k j (l ∷ ls) x y e u = step (nat_eq j l.of) e (λ f. low_higher k j ls x y f u)
  where
    z : Option ℤ
    z = low_by k l.times l.most

    step : (b : Bool) → low_from k j ls (if b then greater x z else x) ≡ x → (low_from k j ls x ≡ x → low_from k j ls y ≡ y) → low_from k j ls (if b then greater y z else y) ≡ y
    step true e rest =
        let up : IsUnder (greater x z) x = rw e at (low_grows k j ls (greater x z)) in
        let same : greater x z ≡ x = under_same (greater x z) x up (greater_first x z) in
        let low : IsUnder z y = under_both z x y (under_both z (greater x z) x (greater_second x z) up) u in
        ap (low_from k j ls) (greater_is y z low) ∙ rest (ap (low_from k j ls) (sym same) ∙ e)
    step false e rest = rest e

high_lower : (k : Kind) (j : ℕ) (ls : List Limit) (x y : Option ℤ) → high_from k j ls x ≡ x → IsOver x y → high_from k j ls y ≡ y
high_lower k j [] x y e u = refl
high_lower k j (l ∷ ls) x y e u = step (nat_eq j l.of) e (λ f. high_lower k j ls x y f u)
  where
    z : Option ℤ
    z = high_by k l.times l.most

    step : (b : Bool) → high_from k j ls (if b then lesser x z else x) ≡ x → (high_from k j ls x ≡ x → high_from k j ls y ≡ y) → high_from k j ls (if b then lesser y z else y) ≡ y
    step true e rest =
        let up : IsOver (lesser x z) x = rw e at (high_falls k j ls (lesser x z)) in
        let same : lesser x z ≡ x = over_same (lesser x z) x up (lesser_first x z) in
        let low : IsOver z y = over_both z x y (over_both z (lesser x z) x (lesser_second x z) up) u in
        ap (high_from k j ls) (lesser_is y z low) ∙ rest (ap (high_from k j ls) (sym same) ∙ e)
    step false e rest = rest e

-- ---- limits of a row of which no variable moved
other_id : (moved : List Bool) (j k : ℕ) → has_moved moved j ≡ true → has_moved moved k ≡ false → nat_eq j k ≡ false
other_id moved j k p q = step (nat_eq j k) refl
  where
    step : (b : Bool) → nat_eq j k ≡ b → nat_eq j k ≡ false
    step true e = let s : j ≡ k = grind (arith, nat_tests) in absurd (cc (p, q, ap (has_moved moved) s))
    step false e = e

or_left : (a b : Bool) → (a || b) ≡ false → a ≡ false
or_left true b e = absurd (cc e)
or_left false b e = refl

or_right : (a b : Bool) → (a || b) ≡ false → b ≡ false
or_right true b e = absurd (cc e)
or_right false b e = e

turned_moves : (moved : List Bool) (ts : List (ℕ × ℤ)) → does_any_move moved ts ≡ false → does_any_move moved (turned ts) ≡ false
turned_moves moved [] e = refl
turned_moves moved (t ∷ ts) e =
    let a = or_left (has_moved moved t.0) (does_any_move moved ts) e in
    rw a (turned_moves moved ts (or_right (has_moved moved t.0) (does_any_move moved ts) e))

-- limits on other variables leave a bound as it is
low_apart : (k : Kind) (moved : List Bool) (j : ℕ) (b : ℤ) (before : Option ℤ) (ts : List (ℕ × ℤ)) (box : Box) (x : Option ℤ) → has_moved moved j ≡ true → does_any_move moved ts ≡ false → low_from k j (limits_from b before ts box) x ≡ x
low_apart k moved j b before [] box x p q = refl
low_apart k moved j b before (t ∷ ts) box x p q =
    rw (other_id moved j t.0 p (or_left (has_moved moved t.0) (does_any_move moved ts) q), low_from)
    (low_apart k moved j b (both_sums before (least_of_term t box)) ts box x p (or_right (has_moved moved t.0) (does_any_move moved ts) q))

high_apart : (k : Kind) (moved : List Bool) (j : ℕ) (b : ℤ) (before : Option ℤ) (ts : List (ℕ × ℤ)) (box : Box) (x : Option ℤ) → has_moved moved j ≡ true → does_any_move moved ts ≡ false → high_from k j (limits_from b before ts box) x ≡ x
high_apart k moved j b before [] box x p q = refl
high_apart k moved j b before (t ∷ ts) box x p q =
    rw (other_id moved j t.0 p (or_left (has_moved moved t.0) (does_any_move moved ts) q), high_from)
    (high_apart k moved j b (both_sums before (least_of_term t box)) ts box x p (or_right (has_moved moved t.0) (does_any_move moved ts) q))

-- what holds of the limits of each half of a row holds of the row's
halves_low_apart : (k : Kind) (moved : List Bool) (j : ℕ) (rel : Rel) (ts : List (ℕ × ℤ)) (b : ℤ) (box : Box) (x : Option ℤ) → has_moved moved j ≡ true → does_any_move moved ts ≡ false → low_from k j (limits_of_halves (halves rel ts b) box) x ≡ x
halves_low_apart k moved j AtMost ts b box x p q = low_more k j (limits_from b (Some (pos 0)) ts box) [] x ∙ low_apart k moved j b (Some (pos 0)) ts box x p q
halves_low_apart k moved j AtLeast ts b box x p q = low_more k j (limits_from _ (Some (pos 0)) (turned ts) box) [] x ∙ low_apart k moved j _ (Some (pos 0)) (turned ts) box x p (turned_moves moved ts q)
halves_low_apart k moved j Equal ts b box x p q =
    low_more k j (limits_from b (Some (pos 0)) ts box) (limits_from _ (Some (pos 0)) (turned ts) box ++ []) x
    ∙ low_more k j (limits_from _ (Some (pos 0)) (turned ts) box) [] (low_from k j (limits_from b (Some (pos 0)) ts box) x)
    ∙ low_apart k moved j _ (Some (pos 0)) (turned ts) box (low_from k j (limits_from b (Some (pos 0)) ts box) x) p (turned_moves moved ts q)
    ∙ low_apart k moved j b (Some (pos 0)) ts box x p q

halves_high_apart : (k : Kind) (moved : List Bool) (j : ℕ) (rel : Rel) (ts : List (ℕ × ℤ)) (b : ℤ) (box : Box) (x : Option ℤ) → has_moved moved j ≡ true → does_any_move moved ts ≡ false → high_from k j (limits_of_halves (halves rel ts b) box) x ≡ x
halves_high_apart k moved j AtMost ts b box x p q = high_more k j (limits_from b (Some (pos 0)) ts box) [] x ∙ high_apart k moved j b (Some (pos 0)) ts box x p q
halves_high_apart k moved j AtLeast ts b box x p q = high_more k j (limits_from _ (Some (pos 0)) (turned ts) box) [] x ∙ high_apart k moved j _ (Some (pos 0)) (turned ts) box x p (turned_moves moved ts q)
halves_high_apart k moved j Equal ts b box x p q =
    high_more k j (limits_from b (Some (pos 0)) ts box) (limits_from _ (Some (pos 0)) (turned ts) box ++ []) x
    ∙ high_more k j (limits_from _ (Some (pos 0)) (turned ts) box) [] (high_from k j (limits_from b (Some (pos 0)) ts box) x)
    ∙ high_apart k moved j _ (Some (pos 0)) (turned ts) box (high_from k j (limits_from b (Some (pos 0)) ts box) x) p (turned_moves moved ts q)
    ∙ high_apart k moved j b (Some (pos 0)) ts box x p q

-- boxes that agree where no variable moved
abbrev pub AgreeAt : List Bool → Box → Box → Type 0
AgreeAt moved new old = (j : ℕ) → has_moved moved j ≡ false → (new.low j ≡ old.low j) × (new.high j ≡ old.high j)

least_same : (moved : List Bool) (t : ℕ × ℤ) (new old : Box) → AgreeAt moved new old → has_moved moved t.0 ≡ false → least_of_term t new ≡ least_of_term t old
least_same moved t new old agree e =
    let a = agree t.0 e in
    ap (λ o. times t.1 (if is_nonneg t.1 then o else new.high t.0)) a.0 ∙ ap (λ o. times t.1 (if is_nonneg t.1 then old.low t.0 else o)) a.1

least_of_same : (moved : List Bool) (ts : List (ℕ × ℤ)) (new old : Box) → AgreeAt moved new old → does_any_move moved ts ≡ false → least_of ts new ≡ least_of ts old
least_of_same moved [] new old agree e = refl
least_of_same moved (t ∷ ts) new old agree e =
    rw (least_same moved t new old agree (or_left (has_moved moved t.0) (does_any_move moved ts) e), least_of_same moved ts new old agree (or_right (has_moved moved t.0) (does_any_move moved ts) e)) refl

limits_same : (moved : List Bool) (b : ℤ) (before : Option ℤ) (ts : List (ℕ × ℤ)) (new old : Box) → AgreeAt moved new old → does_any_move moved ts ≡ false → limits_from b before ts new ≡ limits_from b before ts old
limits_same moved b before [] new old agree e = refl
limits_same moved b before (t ∷ ts) new old agree e =
    let f = or_right (has_moved moved t.0) (does_any_move moved ts) e in
    rw (least_same moved t new old agree (or_left (has_moved moved t.0) (does_any_move moved ts) e), least_of_same moved ts new old agree f)
    (ap (λ ls. record { of = t.0; times = t.1; most = less b (both_sums before (least_of ts old)) } ∷ ls) (limits_same moved b (both_sums before (least_of_term t old)) ts new old agree f))

halves_same : (moved : List Bool) (rel : Rel) (ts : List (ℕ × ℤ)) (b : ℤ) (new old : Box) → AgreeAt moved new old → does_any_move moved ts ≡ false → limits_of_halves (halves rel ts b) new ≡ limits_of_halves (halves rel ts b) old
halves_same moved AtMost ts b new old agree e = ap (λ ls. ls ++ []) (limits_same moved b (Some (pos 0)) ts new old agree e)
halves_same moved AtLeast ts b new old agree e = ap (λ ls. ls ++ []) (limits_same moved _ (Some (pos 0)) (turned ts) new old agree (turned_moves moved ts e))
halves_same moved Equal ts b new old agree e =
    rw (limits_same moved b (Some (pos 0)) ts new old agree e, limits_same moved _ (Some (pos 0)) (turned ts) new old agree (turned_moves moved ts e)) refl

-- where all rows leave a bound as it is, each does
row_low : (k : Kind) (j : ℕ) (rs : List (RowValue × ℕ)) (i : ℕ) (r : RowValue × ℕ) (box : Box) (x : Option ℤ) → i < length rs → r ≡ get_or rs i r → low_from k j (limits rs box) x ≡ x
    → low_from k j (limits_of_halves (halves r.0.rel r.0.terms r.0.right) box) x ≡ x
row_low k j [] i r box x h e idle = absurd (omega arith)
row_low k j (s ∷ rs) zero r box x h e idle =
    let z : r ≡ s = e in
    rw z (low_front k j (limits_of_halves (halves s.0.rel s.0.terms s.0.right) box) (limits rs box) x idle)
row_low k j (s ∷ rs) (suc i) r box x h e idle = row_low k j rs i r box x (omega arith) e (low_back k j (limits_of_halves (halves s.0.rel s.0.terms s.0.right) box) (limits rs box) x idle)

row_high : (k : Kind) (j : ℕ) (rs : List (RowValue × ℕ)) (i : ℕ) (r : RowValue × ℕ) (box : Box) (x : Option ℤ) → i < length rs → r ≡ get_or rs i r → high_from k j (limits rs box) x ≡ x
    → high_from k j (limits_of_halves (halves r.0.rel r.0.terms r.0.right) box) x ≡ x
row_high k j [] i r box x h e idle = absurd (omega arith)
row_high k j (s ∷ rs) zero r box x h e idle =
    let z : r ≡ s = e in
    rw z (high_front k j (limits_of_halves (halves s.0.rel s.0.terms s.0.right) box) (limits rs box) x idle)
row_high k j (s ∷ rs) (suc i) r box x h e idle = row_high k j rs i r box x (omega arith) e (high_back k j (limits_of_halves (halves s.0.rel s.0.terms s.0.right) box) (limits rs box) x idle)

kept_same : (b : Bool) (old new : Option ℤ) → new ≡ old → kept_or b old new ≡ old
kept_same true old new e = refl
kept_same false old new e = e

-- a variable that did not move has its bounds after the round
settled_agree : (moved : List Bool) (old mid new : BoundsValue) → HaveStayed moved old mid → IsSettled old mid new → AgreeAt moved (box_of new) (box_of old)
settled_agree moved old mid new stayed settled j e =
    let s = stayed j e in (
      settled.low j ∙ kept_same (are_crossed_at mid j) (slice_index_or old.lows j None) (slice_index_or mid.lows j None) s.0,
      settled.high j ∙ kept_same (are_crossed_at mid j) (slice_index_or old.highs j None) (slice_index_or mid.highs j None) s.1,
    )

-- after a round the rows of which no variable moved are idle
pub others_idle : (kinds : ℕ → Kind) (rows : List (RowValue × ℕ)) (moved : List Bool) (old mid new : BoundsValue) → AreAlike kinds [] mid (limits rows (box_of old)) old → HaveStayed moved old mid → IsSettled old mid new
    → AreOthersIdle kinds rows moved (box_of new)
others_idle kinds rows moved old mid new alike stayed settled i r h e none = record { low = λ j. low_step j (has_moved moved j) refl; high = λ j. high_step j (has_moved moved j) refl }
  where
    agree : AgreeAt moved (box_of new) (box_of old)
    agree = settled_agree moved old mid new stayed settled

    same : limits_of_halves (halves r.0.rel r.0.terms r.0.right) (box_of new) ≡ limits_of_halves (halves r.0.rel r.0.terms r.0.right) (box_of old)
    same = halves_same moved r.0.rel r.0.terms r.0.right (box_of new) (box_of old) agree none

    low_step : (j : ℕ) (b : Bool) → has_moved moved j ≡ b → low_from (kinds j) j (limits_of_halves (halves r.0.rel r.0.terms r.0.right) (box_of new)) ((box_of new).low j) ≡ (box_of new).low j
    low_step j true m = halves_low_apart (kinds j) moved j r.0.rel r.0.terms r.0.right (box_of new) ((box_of new).low j) m none
    low_step j false m =
        let idle = row_low (kinds j) j rows i r (box_of old) ((box_of old).low j) h e (sym (alike.low j) ∙ (stayed j m).0) in
        rw (same, (agree j m).0) idle

    high_step : (j : ℕ) (b : Bool) → has_moved moved j ≡ b → high_from (kinds j) j (limits_of_halves (halves r.0.rel r.0.terms r.0.right) (box_of new)) ((box_of new).high j) ≡ (box_of new).high j
    high_step j true m = halves_high_apart (kinds j) moved j r.0.rel r.0.terms r.0.right (box_of new) ((box_of new).high j) m none
    high_step j false m =
        let idle = row_high (kinds j) j rows i r (box_of old) ((box_of old).high j) h e (sym (alike.high j) ∙ (stayed j m).1) in
        rw (same, (agree j m).1) idle

-- before the first round each variable counts as one that moved
pub all_moved : (kinds : ℕ → Kind) (rows : List (RowValue × ℕ)) (box : Box) → AreOthersIdle kinds rows [] box
all_moved kinds rows box i r h e none = step r.0.rel r.0.terms r.0.right none
  where
    step : (rel : Rel) (ts : List (ℕ × ℤ)) (b : ℤ) → does_any_move [] ts ≡ false → IsIdle kinds (record { terms = ts; rel = rel; right = b }) box
    step rel (t ∷ ts) b none = absurd (cc none)
    step AtMost [] b none = record { low = λ j. refl; high = λ j. refl }
    step AtLeast [] b none = record { low = λ j. refl; high = λ j. refl }
    step Equal [] b none = record { low = λ j. refl; high = λ j. refl }

-- ---- a row that is passed over
-- the bounds are those of the box, narrowed by some rows
pub record AreWithin (box : Box) (now : BoundsValue) : Type 0 where
  pub low : (j : ℕ) → IsUnder (box.low j) (slice_index_or now.lows j None)
  pub high : (j : ℕ) → IsOver (box.high j) (slice_index_or now.highs j None)

pub within_itself : (now : BoundsValue) → AreWithin (box_of now) now
within_itself now = record { low = λ j. under_itself (slice_index_or now.lows j None); high = λ j. over_itself (slice_index_or now.highs j None) }

pub within_more : (kinds : ℕ → Kind) (ls : List Limit) (box : Box) (new now : BoundsValue) → AreAlike kinds [] new ls now → AreWithin box now → AreWithin box new
within_more kinds ls box new now alike within = record {
  low = λ j. under_both (box.low j) (slice_index_or now.lows j None) (slice_index_or new.lows j None) (within.low j) (rw (alike.low j) (low_grows (kinds j) j ls (slice_index_or now.lows j None)));
  high = λ j. over_both (box.high j) (slice_index_or now.highs j None) (slice_index_or new.highs j None) (within.high j) (rw (alike.high j) (high_falls (kinds j) j ls (slice_index_or now.highs j None)));
}

-- an idle row leaves them as they are
pub idle_alike : (kinds : ℕ → Kind) (r : RowValue) (box : Box) (now : BoundsValue) → IsIdle kinds r box → AreWithin box now → AreAlike kinds [] now (limits_of_halves (halves r.rel r.terms r.right) box) now
idle_alike kinds r box now idle within = record {
  low = λ j. sym (low_higher (kinds j) j (limits_of_halves (halves r.rel r.terms r.right) box) (box.low j) (slice_index_or now.lows j None) (idle.low j) (within.low j));
  high = λ j. sym (high_lower (kinds j) j (limits_of_halves (halves r.rel r.terms r.right) box) (box.high j) (slice_index_or now.highs j None) (idle.high j) (within.high j));
}

-- ---- one more variable
flag_at_end : (moved : List Bool) (b : Bool) (j : ℕ) → has_moved (moved ++ b ∷ []) j ≡ false → (has_moved moved j ≡ false) ⊎ ((j ≡ length moved) × (b ≡ false))
flag_at_end [] b zero e = inr (refl, e)
flag_at_end [] b (suc j) e = absurd (cc e)
flag_at_end (m ∷ ms) b zero e = inl e
flag_at_end (m ∷ ms) b (suc j) e = elim (flag_at_end ms b j e) [
  | inl p ↦ inl p
  | inr q ↦ inr (ap suc q.0, q.1)
]

pub stayed_more : (moved : List Bool) (old new : BoundsValue) (b : Bool) → HaveStayed moved old new
    → (b ≡ false → slice_index_or new.lows (length moved) None ≡ slice_index_or old.lows (length moved) None)
    → (b ≡ false → slice_index_or new.highs (length moved) None ≡ slice_index_or old.highs (length moved) None) → HaveStayed (moved ++ b ∷ []) old new
stayed_more moved old new b before low high j e = elim (flag_at_end moved b j e) [
  | inl p ↦ before j p
  | inr q ↦ rw q.0 (low q.1, high q.1)
]

pub none_stayed : (old new : BoundsValue) → HaveStayed [] old new
none_stayed old new j e = absurd (cc e)
