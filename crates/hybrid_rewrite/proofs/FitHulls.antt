-- The rows of a rewrite, of whatever flagging, are such as the builder takes.
use Rattle.hull_rewrite.proofs.Laying.{all_copies_after, copies_after, part_after}
use Rattle.emission.proofs.Running.{after-append}
use Rattle.std.proofs.Common.{◌≡◌, ℕ, zero, suc, ◌+◌, ◌^◌, ◌≤◌, ◌<◌, ℤ, pos, neg_ℤ, ◌+ℤ◌, Bool, true, false, ◌&&◌, ◌||◌, nat_eq, nat_lt, List, [], ◌∷◌, ◌++◌, length, refl, ap, sym, ◌∙◌, arith, unsigned_abs, Option, Some, None, length-append, if◌then◌else◌}
use Rattle.std.specs.Prelude.{filter}
use Rattle.std.proofs.lemmas.Bool.Decides.{nat_tests}
use Rattle.std.proofs.lemmas.Int.{ints}
use Rattle.lp_rows.specs.declared.kinds.Rel.TheVariants.{AtMost, AtLeast, Equal}
use Rattle.milps.proofs.Columned.{and_left, and_right, and_true, nat_eq_same, nat_eq_true, or_left, or_right}
use Rattle.block_tree.specs.Occurs.{occurs_below, occurs_in_block, occurs_in_rows, occurs_within}
use Rattle.block_tree.specs.Sound.{IsSound, are_disjunctions_sound, are_disjunctions_stored, are_disjuncts_sound, are_disjuncts_stored, are_props_sound, are_rows_below, are_rows_stored, is_block_sound, is_filled, is_stored}
use Rattle.block_tree.specs.Tree.{BlockTree, DisjunctHead, Disjunctions, Disjuncts, below, below_disjunctions, below_disjuncts, block, disjunct, disjunction, no_disjunctions, no_disjuncts}
use Rattle.block_tree.specs.Values.{ModelTree}
use Rattle.bound_propagation.specs.Kept.{is_end_storable}
use Rattle.emission.specs.Items.{Guard, Meaning, after, always, copy, followed, rest, stand, where_true}
use Rattle.emission.specs.Sums.{Sum, column, minus, number, plus}
use Rattle.bigm_rewrite.specs.Relaxed.{Setting, guarded, is_same_guard, rows_items}
use Rattle.hull_rewrite.specs.Copies.{all_copies, copies, copy_part, expansion, first_unbounded, high_of, is_zero, low_of, low_row, minus_copies, minus_rest, occurring, or_zero, part, place, rest_part, rest_scale, rests, sums, times_size, up_to}
use Rattle.hybrid_rewrite.specs.Blocks.{Frames, block_items, copied, disjunctions_items, disjuncts_items, frame_in, frames_of, is_hulled, kept, next_frames, own_items, props_items, scale_in, selection}
use Rattle.hybrid_rewrite.specs.Compiled.{RewritesAreFit}
use Rattle.hull_rewrite.specs.Distinct.{stands_in}
use Rattle.hybrid_rewrite.specs.Rewritten.{goal_items, head_items, is_plain_goal, listed_rewrite, same_place, setting_of, tree_items}
use Rattle.hybrid_rewrite.proofs.Counting.{flat_low}
use Rattle.hybrid_rewrite.proofs.Finishing.{after_least, start}
use Rattle.hybrid_rewrite.proofs.FitBlocks.{counted_within, disjunct_count, goal_fit_by, head_fit, id_test, last_few, lt_test, props_fit, selection_fit, stored_size}
use Rattle.hybrid_rewrite.proofs.FitBoxes.{box_stored}
use Rattle.hybrid_rewrite.proofs.FitFrames.{IsApart, IsFrame, IsGuard, IsSized, frame_more, one_guard, rows_fit, two_guards}
use Rattle.hybrid_rewrite.proofs.FitProps.{small_row}
use Rattle.hybrid_rewrite.proofs.Fitting.{Fits, IsFit, IsGuardBelow, Small, fit-append, fits_taken, flat_fit, minus_size, one_size, run_fit, small_column, small_plus, small_zero}
use Rattle.hybrid_rewrite.proofs.HeadItems.{head_after}
use Rattle.hybrid_rewrite.proofs.Sounds.{block_vars, disjuncts_vars}

-- ---- lists of variables in ascending order
abbrev Ascends : ℕ → List ℕ → Type 0
Ascends least [] = Unit {0}
Ascends least (v ∷ vs) = (least ≤ v) × Ascends (suc v) vs

lower : (a b : ℕ) (vs : List ℕ) → a ≤ b → Ascends b vs → Ascends a vs
lower a b [] h x = tt
lower a b (v ∷ vs) h x = (let y = x.0 in omega arith, x.1)

abbrev AllLess : ℕ → List ℕ → Type 0
AllLess n [] = Unit {0}
AllLess n (v ∷ vs) = (v < n) × AllLess n vs

less_more : (n : ℕ) (vs : List ℕ) → AllLess n vs → AllLess (suc n) vs
less_more n [] x = tt
less_more n (v ∷ vs) x = (let y = x.0 in omega arith, less_more n vs x.1)

less_end : (n : ℕ) (vs : List ℕ) → AllLess n vs → AllLess (suc n) (vs ++ n ∷ [])
less_end n [] x = (omega arith, tt)
less_end n (v ∷ vs) x = (let y = x.0 in omega arith, less_end n vs x.1)

ascends_end : (least n : ℕ) (vs : List ℕ) → least ≤ n → AllLess n vs → Ascends least vs → Ascends least (vs ++ n ∷ [])
ascends_end least n [] h x a = (h, tt)
ascends_end least n (v ∷ vs) h x a = (a.0, ascends_end (suc v) n vs (let y = x.0 in omega arith) x.1 a.1)

up_to_less : (n : ℕ) → AllLess n (up_to n)
up_to_less zero = tt
up_to_less (suc n) = less_end n (up_to n) (up_to_less n)

up_to_ascends : (n : ℕ) → Ascends 0 (up_to n)
up_to_ascends zero = tt
up_to_ascends (suc n) = ascends_end 0 n (up_to n) (omega arith) (up_to_less n) (up_to_ascends n)

filter_by : (b : Bool) (least v : ℕ) (vs : List ℕ) → least ≤ v → Ascends (suc v) vs → Ascends least (if b then v ∷ vs else vs)
filter_by true least v vs h a = (h, a)
filter_by false least v vs h a = lower least (suc v) vs (omega (arith, h)) a

filter_ascends : (p : ℕ → Bool) (least : ℕ) (vs : List ℕ) → Ascends least vs → Ascends least (filter p vs)
filter_ascends p least [] a = tt
filter_ascends p least (v ∷ vs) a = filter_by (p v) least v (filter p vs) a.0 (filter_ascends p (suc v) vs a.1)

occurring_ascends : (n : ℕ) (js : Disjuncts) → Ascends 0 (occurring n js)
occurring_ascends n js = filter_ascends (λ j. occurs_within j js) 0 (up_to n) (up_to_ascends n)

in_first : (j : ℕ) (xs ys : List ℕ) → stands_in j xs ≡ true → stands_in j (xs ++ ys) ≡ true
in_first j [] ys h = cc
in_first j (x ∷ xs) ys h = either_true (nat_eq j x) (stands_in j xs) (stands_in j (xs ++ ys)) (in_first j xs ys) h
  where
    either_true : (a b c : Bool) → (b ≡ true → c ≡ true) → (a || b) ≡ true → (a || c) ≡ true
    either_true true b c f h = refl
    either_true false b c f h = f h

in_last : (j : ℕ) (xs ys : List ℕ) → stands_in j ys ≡ true → stands_in j (xs ++ ys) ≡ true
in_last j [] ys h = h
in_last j (x ∷ xs) ys h = or_right (nat_eq j x) (stands_in j (xs ++ ys)) (in_last j xs ys h)

eq_test : (i j : ℕ) → i ≡ j → nat_eq i j ≡ true
eq_test i j e = grind (arith, nat_tests)

in_up_to_by : (b : Bool) (j n : ℕ) → nat_eq j n ≡ b → j < suc n → (j < n → stands_in j (up_to n) ≡ true) → stands_in j (up_to n ++ n ∷ []) ≡ true
in_up_to_by true j n e h f = in_last j (up_to n) (n ∷ []) (or_left (nat_eq j n) false e)
in_up_to_by false j n e h f = in_first j (up_to n) (n ∷ []) (f (strict j n e h))
  where
    strict : (j n : ℕ) → nat_eq j n ≡ false → j < suc n → j < n
    strict j n e h = grind (arith, nat_tests)

in_up_to : (j n : ℕ) → j < n → stands_in j (up_to n) ≡ true
in_up_to j zero h = absurd (omega arith)
in_up_to j (suc n) h = in_up_to_by (nat_eq j n) j n refl h (in_up_to j n)

in_filter_by : (b t : Bool) (j v : ℕ) (us : List ℕ) → nat_eq j v ≡ t → (j ≡ v → b ≡ true) → (t ≡ false → stands_in j us ≡ true) → stands_in j (if b then v ∷ us else us) ≡ true
in_filter_by true t j v us e f g = head_or t (nat_eq j v) (stands_in j us) e g
  where
    head_or : (t a b : Bool) → a ≡ t → (t ≡ false → b ≡ true) → (a || b) ≡ true
    head_or true a b e g = or_left a b e
    head_or false a b e g = or_right a b (g refl)
in_filter_by false true j v us e f g = let w : false ≡ true = f (nat_eq_true j v e) in cc
in_filter_by false false j v us e f g = g refl

in_filter : (p : ℕ → Bool) (j : ℕ) (vs : List ℕ) → p j ≡ true → stands_in j vs ≡ true → stands_in j (filter p vs) ≡ true
in_filter p j [] q h = cc
in_filter p j (v ∷ vs) q h =
    in_filter_by (p v) (nat_eq j v) j v (filter p vs) refl (λ e. ap p (sym e) ∙ q)
    (λ e. in_filter p j vs q (other (nat_eq j v) (stands_in j vs) e h))
  where
    other : (a b : Bool) → a ≡ false → (a || b) ≡ true → b ≡ true
    other true b e h = cc
    other false b e h = h

occurring_has : (n j : ℕ) (js : Disjuncts) → j < n → occurs_within j js ≡ true → stands_in j (occurring n js) ≡ true
occurring_has n j js h e = in_filter (λ i. occurs_within i js) j (up_to n) e (in_up_to j n h)

-- ---- the columns of copies
place_by_least : (b : Bool) (i x : ℕ) → suc i ≤ x → i ≤ (if b then i else x)
place_by_least true i x h = omega arith
place_by_least false i x h = omega (arith, h)

place_least : (vs : List ℕ) (i j : ℕ) → i ≤ place vs i j
place_least [] i j = omega arith
place_least (v ∷ vs) i j = place_by_least (nat_eq j v) i (place vs (suc i) j) (place_least vs (suc i) j)

place_most : (vs : List ℕ) (i j : ℕ) → stands_in j vs ≡ true → place vs i j < i + length vs
place_most [] i j h = cc
place_most (v ∷ vs) i j h = most_by (nat_eq j v) (stands_in j vs) h (place_most vs (suc i) j)
  where
    most_by : (b c : Bool) → (b || c) ≡ true → (c ≡ true → place vs (suc i) j < suc i + length vs) → (if b then i else place vs (suc i) j) < i + suc (length vs)
    most_by true c h f = omega arith
    most_by false c h f = let x = f h in omega (arith, x)

least_in : (j least : ℕ) (vs : List ℕ) → Ascends least vs → stands_in j vs ≡ true → least ≤ j
least_in j least [] a h = cc
least_in j least (v ∷ vs) a h = least_by (nat_eq j v) (stands_in j vs) refl h (λ s. let x = least_in j (suc v) vs a.1 s in let y = a.0 in omega (arith, x, y))
  where
    least_by : (b c : Bool) → nat_eq j v ≡ b → (b || c) ≡ true → (c ≡ true → least ≤ j) → least ≤ j
    least_by true c e h f = let q = nat_eq_true j v e in let y = a.0 in omega (arith, q, y)
    least_by false c e h f = f h

place_order : (vs : List ℕ) (i least j l : ℕ) → Ascends least vs → stands_in j vs ≡ true → stands_in l vs ≡ true → j < l → place vs i j < place vs i l
place_order [] i least j l a s t h = cc
place_order (v ∷ vs) i least j l a s t h =
    order_by (nat_eq j v) (nat_eq l v) (stands_in j vs) (stands_in l vs) refl refl refl refl s t (λ x y. place_order vs (suc i) (suc v) j l a.1 x y h)
  where
    order_by : (b c d e : Bool) → nat_eq j v ≡ b → nat_eq l v ≡ c → stands_in j vs ≡ d → stands_in l vs ≡ e → (b || d) ≡ true → (c || e) ≡ true → (stands_in j vs ≡ true → stands_in l vs ≡ true → place vs (suc i) j < place vs (suc i) l) → (if b then i else place vs (suc i) j) < (if c then i else place vs (suc i) l)
    order_by true true d e p q x y u w f = let m = nat_eq_true j v p in let n = nat_eq_true l v q in absurd (omega (arith, m, n, h))
    order_by true false d e p q x y u w f = let k = place_least vs (suc i) l in omega (arith, k)
    order_by false true d e p q x y u w f = let n = nat_eq_true l v q in let k = least_in j (suc v) vs a.1 (x ∙ u) in absurd (omega (arith, n, k, h))
    order_by false false d e p q x y u w f = f (x ∙ u) (y ∙ w)

copies_frame : (first m k i : ℕ) (vs : List ℕ) → first + m ≤ i → i + length vs ≤ k → Ascends 0 vs → IsFrame first m k (λ j. stands_in j vs) (place vs i)
copies_frame first m k i vs h b a = record {
  ids = λ j s. (let x = place_most vs i j s in omega (arith, x, b));
  order = λ j l s t o. place_order vs i 0 j l a s t o;
  apart = λ j y s l e. (let x = place_least vs i j in omega (arith, x, e, h, l));
}

own_frame : (first m k n : ℕ) → n ≤ first → n ≤ k → IsFrame first m k (λ j. nat_lt j n) same_place
own_frame first m k n h b = record {
  ids = λ j s. (let x = id_test j n s in omega (arith, x, b));
  order = λ j l s t o. o;
  apart = λ j y s l e. (let x = id_test j n s in omega (arith, x, e, h));
}

-- ---- one column before k that is none of the Booleans'
single : (first m k i : ℕ) → first + m ≤ i → i < k → IsApart first m k ((i, pos 1) ∷ [])
single first m k i h b = record {
  few = omega arith;
  ids = and_true (nat_lt i k) true (lt_test i k b) refl;
  spread = λ j. one_small (nat_eq i j);
  apart = λ y l. one_off (nat_eq i (first + y)) y l refl;
}
  where
    one_small : (t : Bool) → (if t then unsigned_abs (pos 1) else 0) + 0 ≤ 10 ^ 15
    one_small true = omega (arith, ints)
    one_small false = omega arith

    one_off : (t : Bool) (y : ℕ) → y < m → nat_eq i (first + y) ≡ t → (if t then unsigned_abs (pos 1) else 0) + 0 ≡ 0
    one_off true y l e = let q = nat_eq_true i (first + y) e in absurd (omega (arith, q, h, l))
    one_off false y l e = refl

column_is : (i : ℕ) → column (pos 1) i ≡ record { terms = (i, pos 1) ∷ []; number = pos 0 }
unfolding column
column_is i = refl

sized : (c : ℤ) (g : Guard) → unsigned_abs c ≤ 10 ^ 15 → IsSized c g
sized c always h = tt
sized c (where_true y) h = h

guard_number : (first : ℕ) (c : ℤ) (g : Guard) → unsigned_abs c ≤ 10 ^ 15 → unsigned_abs (guarded first c g).number ≤ 10 ^ 15
unfolding guarded number column
guard_number first c always h = h
guard_number first c (where_true y) h = omega arith

both_numbers : (first : ℕ) (a c : ℤ) (scale on : Guard) → is_same_guard scale on ≡ false → unsigned_abs a ≤ 10 ^ 15 → unsigned_abs c ≤ 10 ^ 15 → unsigned_abs ((guarded first c scale).number +ℤ (guarded first a on).number) ≤ 10 ^ 15
unfolding guarded number column
both_numbers first a c always always n h k = absurd (let w : true ≡ false = n in cc)
both_numbers first a c always (where_true y) n h k = omega (arith, ints, k)
both_numbers first a c (where_true s) always n h k = omega (arith, ints, h)
both_numbers first a c (where_true s) (where_true y) n h k = omega arith

same_turned : (scale on : Guard) → is_same_guard scale on ≡ false → is_same_guard on scale ≡ false
same_turned always always n = n
same_turned always (where_true y) n = refl
same_turned (where_true s) always n = refl
same_turned (where_true s) (where_true y) n = swapped (nat_eq y s) refl
  where
    swapped : (b : Bool) → nat_eq y s ≡ b → b ≡ false
    swapped true e = let q = nat_eq_true y s e in let t = eq_test s y (sym q) in let w : true ≡ false = sym t ∙ n in cc
    swapped false e = refl

-- ---- copies and rests
neg_size : (z : ℤ) → unsigned_abs z ≤ 10 ^ 15 → unsigned_abs (neg_ℤ z) ≤ 10 ^ 15
neg_size z h = omega (arith, ints, h)

end_size : (o : Option ℤ) → is_end_storable o ≡ true → unsigned_abs (or_zero o) ≤ 10 ^ 15
end_size None h = omega arith
end_size (Some z) h = stored_size z h

-- the ends of the box may be stored
pub record IsBoxed (g : Setting) : Type 0 where
  pub low : (j : ℕ) → is_end_storable (g.box.low j) ≡ true
  pub high : (j : ℕ) → is_end_storable (g.box.high j) ≡ true

part_fit : (i : ℕ) (x : Meaning) (l : ℤ) (low high : Sum) → Fits (suc i) (plus (column (pos 1) i) low) → Fits (suc i) (plus (column (pos 1) i) high) → IsFit i (part i x l low high)
part_fit i x l low high a b =
    flat_fit (suc i) (low_row (is_zero l) i low) (stand AtMost (plus (column (pos 1) i) high) ∷ []) (flat_low (is_zero l) i low) (low_by (is_zero l)) (fits_taken (suc i) AtMost (plus (column (pos 1) i) high) b, tt)
  where
    low_by : (t : Bool) → IsFit (suc i) (low_row t i low)
    low_by true = tt
    low_by false = (fits_taken (suc i) AtLeast (plus (column (pos 1) i) low) a, tt)

copy_fits : (g : Setting) (m i y : ℕ) (c : ℤ) → g.first + m ≤ i → y < m → unsigned_abs c ≤ 10 ^ 15 → Fits (suc i) (plus (column (pos 1) i) (guarded g.first c (where_true y)))
copy_fits g m i y c h l s =
    rw (column_is i) (one_guard g.first m (suc i) ((i, pos 1) ∷ []) (where_true y) c (single g.first m (suc i) i h (omega arith)) l (omega (arith, h)) s (guard_number g.first c (where_true y) s))

copies_fit : (g : Setting) (m i y : ℕ) (vs : List ℕ) → IsBoxed g → g.first + m ≤ i → y < m → IsFit i (copies g i y vs)
copies_fit g m i y [] b h l = tt
copies_fit g m i y (j ∷ vs) b h l =
    let lo = neg_size (low_of g j) (end_size (g.box.low j) (b.low j)) in
    let hi = neg_size (high_of g j) (end_size (g.box.high j) (b.high j)) in
    let e = part_after i (copy j y) (low_of g j) (guarded g.first (neg_ℤ (low_of g j)) (where_true y)) (guarded g.first (neg_ℤ (high_of g j)) (where_true y)) in
    fit-append i (copy_part g i y j) (copies g (suc i) y vs)
    (part_fit i (copy j y) (low_of g j) (guarded g.first (neg_ℤ (low_of g j)) (where_true y)) (guarded g.first (neg_ℤ (high_of g j)) (where_true y)) (copy_fits g m i y (neg_ℤ (low_of g j)) h l lo) (copy_fits g m i y (neg_ℤ (high_of g j)) h l hi))
    (rw e (copies_fit g m (suc i) y vs b (omega (arith, h)) l))

all_copies_fit : (g : Setting) (m n i : ℕ) (vs : List ℕ) (js : Disjuncts) → IsBoxed g → g.first + m ≤ i → are_disjuncts_sound n m js ≡ true → IsFit i (all_copies g (length vs) i vs js)
all_copies_fit g m n i vs no_disjuncts b h s = tt
all_copies_fit g m n i vs (disjunct head t js) b h s =
    let x = and_left (nat_lt head.indicator m && is_block_sound n m t) (are_disjuncts_sound n m js) s in
    let y = id_test head.indicator m (and_left (nat_lt head.indicator m) (is_block_sound n m t) x) in
    fit-append i (copies g i head.indicator vs) (all_copies g (length vs) (i + length vs) vs js) (copies_fit g m i head.indicator vs b h y)
    (rw (copies_after g i head.indicator vs) (all_copies_fit g m n (i + length vs) vs js b (omega (arith, h)) (and_right (nat_lt head.indicator m && is_block_sound n m t) (are_disjuncts_sound n m js) s)))

rest_fits : (g : Setting) (m i : ℕ) (c : ℤ) (scale on : Guard) → g.first + m ≤ i → is_same_guard scale on ≡ false → IsGuard m on → IsGuard m scale → unsigned_abs c ≤ 10 ^ 15 → Fits (suc i) (plus (column (pos 1) i) (rest_scale g c scale on))
rest_fits g m i c scale on h n p q s =
    let z = neg_size c s in
    rw (column_is i) (two_guards g.first m (suc i) ((i, pos 1) ∷ []) scale on (neg_ℤ c) c (single g.first m (suc i) i h (omega arith)) (same_turned scale on n) q p (omega (arith, h)) (sized (neg_ℤ c) scale z) (sized c on s) (both_numbers g.first c (neg_ℤ c) scale on n s z))

rests_fit : (g : Setting) (t : Bool) (m r : ℕ) (scale on : Guard) (vs : List ℕ) → is_same_guard scale on ≡ t → IsBoxed g → g.first + m ≤ r → IsGuard m on → IsGuard m scale → IsFit r (rests g t r scale on vs)
rests_fit g true m r scale on vs n b h p q = tt
rests_fit g false m r scale on [] n b h p q = tt
rests_fit g false m r scale on (j ∷ vs) n b h p q =
    let e = part_after r (rest j scale on) (low_of g j) (rest_scale g (low_of g j) scale on) (rest_scale g (high_of g j) scale on) in
    fit-append r (rest_part g r scale on j) (rests g false (suc r) scale on vs)
    (part_fit r (rest j scale on) (low_of g j) (rest_scale g (low_of g j) scale on) (rest_scale g (high_of g j) scale on)
    (rest_fits g m r (low_of g j) scale on h n p q (end_size (g.box.low j) (b.low j))) (rest_fits g m r (high_of g j) scale on h n p q (end_size (g.box.high j) (b.high j))))
    (rw e (rests_fit g false m (suc r) scale on vs n b (omega (arith, h)) p q))

rests_after : (g : Setting) (t : Bool) (r : ℕ) (scale on : Guard) (vs : List ℕ) → after r (rests g t r scale on vs) ≡ r + (if t then 0 else length vs)
rests_after g true r scale on vs = omega arith
rests_after g false r scale on [] = omega arith
rests_after g false r scale on (j ∷ vs) =
    let e = part_after r (rest j scale on) (low_of g j) (rest_scale g (low_of g j) scale on) (rest_scale g (high_of g j) scale on) in
    let a = after-append r (rest_part g r scale on j) (rests g false (suc r) scale on vs) in
    let i = rests_after g false (suc r) scale on vs in
    let f = ap (λ n. after n (rests g false (suc r) scale on vs)) e in
    a ∙ f ∙ i ∙ omega arith

-- ---- the sums
small_copies : (size i k : ℕ) (js : Disjuncts) → i + times_size size js < k + size → Small k (disjunct_count js) (minus_copies size i js)
unfolding minus_copies
small_copies size i k no_disjuncts h = small_zero k
small_copies size i k (disjunct head b js) h =
    small_plus k 1 (disjunct_count js) (column minus i) (minus_copies size (i + size) js) (small_column k minus i minus_size (omega (arith, h))) (small_copies size (i + size) k js (omega (arith, h)))

small_rest : (t : Bool) (r k : ℕ) → (t ≡ false → r < k) → Small k 1 (minus_rest t r)
unfolding minus_rest
small_rest true r k h = more (small_zero k)
  where
    more : Small k 0 (number (pos 0)) → Small k 1 (number (pos 0))
    more s = record { few = (let x = s.few in omega (arith, x)); ids = s.ids; sum = (let x = s.sum in omega (arith, x)); number = (let x = s.number in omega (arith, x)) }
small_rest false r k h = small_column k minus r minus_size (h refl)

sums_fit : (first m k : ℕ) (p : ℕ → Bool) (f : ℕ → ℕ) (t : Bool) (size i r : ℕ) (vs : List ℕ) (js : Disjuncts) → IsFrame first m k p f → ((j : ℕ) → stands_in j vs ≡ true → p j ≡ true) → disjunct_count js ≤ 200 →
    i + length vs + times_size size js ≤ k + size → (t ≡ false → r + length vs ≤ k) → IsFit k (sums f t size i r vs js)
sums_fit first m k p f t size i r [] js w c d a b = tt
sums_fit first m k p f t size i r (j ∷ vs) js w c d a b =
    let here = c j (or_left (nat_eq j j) (stands_in j vs) (nat_eq_same j)) in
    small_row k (1 + (disjunct_count js + 1)) Equal (plus (column (pos 1) (f j)) (plus (minus_copies size i js) (minus_rest t r))) (sums f t size (suc i) (suc r) vs js) (omega (arith, d))
    (small_plus k 1 (disjunct_count js + 1) (column (pos 1) (f j)) (plus (minus_copies size i js) (minus_rest t r)) (small_column k (pos 1) (f j) one_size (w.ids j here))
    (small_plus k (disjunct_count js) 1 (minus_copies size i js) (minus_rest t r) (small_copies size i k js (omega (arith, a))) (small_rest t r k (λ e. let x = b e in omega (arith, x)))))
    (sums_fit first m k p f t size (suc i) (suc r) vs js w (λ l s. c l (or_right (nat_eq l j) (stands_in l vs) s)) d (omega (arith, a)) (λ e. let x = b e in omega (arith, x)))

expansion_fit : (g : Setting) (m n k : ℕ) (p : ℕ → Bool) (f : ℕ → ℕ) (scale on : Guard) (vs : List ℕ) (js : Disjuncts) → IsBoxed g → IsFrame g.first m k p f → g.first + m ≤ k → IsGuard m on → IsGuard m scale → are_disjuncts_sound n m js ≡ true →
    ((j : ℕ) → stands_in j vs ≡ true → p j ≡ true) → disjunct_count js ≤ 200 → IsFit k (expansion g f scale on k vs js)
expansion_fit g m n k p f scale on vs js b w h q s e c d =
    let t = is_same_guard scale on in
    let cs = all_copies g (length vs) k vs js in
    let r = k + times_size (length vs) js in
    let rs = rests g t r scale on vs in
    let ss = sums f t (length vs) k r vs js in
    let z = after r rs in
    let zr = rests_after g t r scale on vs in
    fit-append k cs (rs ++ ss) (all_copies_fit g m n k vs js b h e)
    (rw (all_copies_after g k vs js) (fit-append r rs ss (rests_fit g t m r scale on vs refl b (omega (arith, h)) q s)
    (sums_fit g.first m z p f t (length vs) k r vs js (frame_more g.first m k z p f (omega (arith, zr)) w) c d (omega (arith, zr)) (λ u. (let v : z ≡ r + length vs = zr ∙ ap (λ x. r + (if x then 0 else length vs)) u in omega (arith, v))))))

-- ---- frames of disjuncts
abbrev test_of : (ℕ → Bool) → Frames → ℕ → Bool
test_of p (kept f scale) j = p j
test_of p (copied vs i) j = stands_in j vs

abbrev AreReady : (first m k : ℕ) → (ℕ → Bool) → Frames → Disjuncts → Type 0
AreReady first m k p (kept f scale) js = IsFrame first m k p f × IsGuard m scale
AreReady first m k p (copied vs i) js = (first + m ≤ i) × (i + times_size (length vs) js ≤ k) × Ascends 0 vs

ready_frame : (first m k : ℕ) (p : ℕ → Bool) (x : Frames) (head : DisjunctHead) (b : BlockTree) (js : Disjuncts) → AreReady first m k p x (disjunct head b js) → IsFrame first m k (test_of p x) (frame_in x)
ready_frame first m k p (kept f scale) head b js r = r.0
ready_frame first m k p (copied vs i) head b js r = copies_frame first m k i vs r.0 (let x = r.1 in omega (arith, x)) r.2

ready_scale : (first m k y : ℕ) (p : ℕ → Bool) (x : Frames) (js : Disjuncts) → y < m → AreReady first m k p x js → IsGuard m (scale_in x y)
ready_scale first m k y p (kept f scale) js h r = r.1
ready_scale first m k y p (copied vs i) js h r = h

ready_next : (first m k l : ℕ) (p : ℕ → Bool) (x : Frames) (head : DisjunctHead) (b : BlockTree) (js : Disjuncts) → k ≤ l → AreReady first m k p x (disjunct head b js) → AreReady first m l p (next_frames x) js
ready_next first m k l p (kept f scale) head b js h r = (frame_more first m k l p f h r.0, r.1)
ready_next first m k l p (copied vs i) head b js h r = (let x = r.0 in omega (arith, x), let x = r.1 in omega (arith, x, h), r.2)

next_test : (p : ℕ → Bool) (x : Frames) (j : ℕ) → test_of p (next_frames x) j ≡ test_of p x j
next_test p (kept f scale) j = refl
next_test p (copied vs i) j = refl

guard_is_below : (first m k : ℕ) (g : Guard) → first + m ≤ k → IsGuard m g → IsGuardBelow first k g
guard_is_below first m k always h i = tt
guard_is_below first m k (where_true y) h i = omega (arith, h, i)

expansion_long : (g : Setting) (f : ℕ → ℕ) (scale on : Guard) (k : ℕ) (vs : List ℕ) (js : Disjuncts) → k + times_size (length vs) js ≤ after k (expansion g f scale on k vs js)
expansion_long g f scale on k vs js =
    let cs = all_copies g (length vs) k vs js in
    let more = rests g (is_same_guard scale on) (k + times_size (length vs) js) scale on vs ++ sums f (is_same_guard scale on) (length vs) k (k + times_size (length vs) js) vs js in
    let a = after-append k cs more in
    let c = all_copies_after g k vs js in
    let l = after_least (after k cs) more in
    omega (arith, a, c, l)

-- a disjunction's own items and its disjuncts', by its flag
flagged_fit : (t : Bool) (lack : Option ℕ) (g : Setting) (m n i : ℕ) (p : ℕ → Bool) (f : ℕ → ℕ) (scale on : Guard) (mark : ℕ) (js : Disjuncts) → IsBoxed g → IsFrame g.first m i p f → g.first + m ≤ i → IsGuard m on → IsGuard m scale → are_disjuncts_sound n m js ≡ true →
    disjunct_count js ≤ 200 → ((j : ℕ) → occurs_within j js ≡ true → p j ≡ true) → ((j : ℕ) → occurs_within j js ≡ true → j < g.vars) → ((j : ℕ) → stands_in j (occurring g.vars js) ≡ true → p j ≡ true) →
    ((x : Frames) (q : ℕ) → i ≤ q → AreReady g.first m q p x js → ((j : ℕ) → occurs_within j js ≡ true → test_of p x j ≡ true) → IsFit q (disjuncts_items g x q js)) →
    IsFit i (followed i (own_items g f scale on i t js mark lack) (λ q. disjuncts_items g (frames_of g f scale i t js) q js))
flagged_fit false lack g m n i p f scale on mark js b w h a s e c o v u hyp = hyp (kept f scale) i (omega arith) (w, s) o
flagged_fit true (Some x) g m n i p f scale on mark js b w h a s e c o v u hyp = tt
flagged_fit true None g m n i p f scale on mark js b w h a s e c o v u hyp =
    let vs = occurring g.vars js in
    let own = expansion g f scale on i vs js in
    let l = expansion_long g f scale on i vs js in
    fit-append i own (disjuncts_items g (copied vs i) (after i own) js) (expansion_fit g m n i p f scale on vs js b w h a s e u c)
    (hyp (copied vs i) (after i own) (after_least i own) (h, l, occurring_ascends g.vars js) (λ j q. occurring_has g.vars j js (v j q) q))

-- what stands in the list occurs
filter_has : (p : ℕ → Bool) (j : ℕ) (vs : List ℕ) → stands_in j (filter p vs) ≡ true → p j ≡ true
filter_has p j [] h = cc
filter_has p j (v ∷ vs) h = has_by (p v) refl h (filter_has p j vs)
  where
    split : (t : Bool) → p v ≡ true → nat_eq j v ≡ t → (t || stands_in j (filter p vs)) ≡ true → (stands_in j (filter p vs) ≡ true → p j ≡ true) → p j ≡ true
    split true e q h f = ap p (nat_eq_true j v q) ∙ e
    split false e q h f = f h

    has_by : (b : Bool) → p v ≡ b → stands_in j (if b then v ∷ filter p vs else filter p vs) ≡ true → (stands_in j (filter p vs) ≡ true → p j ≡ true) → p j ≡ true
    has_by true e h f = split (nat_eq j v) e refl h f
    has_by false e h f = f h

mutual
  block_fit : (g : Setting) (n m k : ℕ) (p : ℕ → Bool) (f : ℕ → ℕ) (scale on : Guard) (b : BlockTree) → IsBoxed g → g.vars ≡ n → n ≤ 500 → IsFrame g.first m k p f → g.first + m ≤ k → IsGuard m on → IsGuard m scale → is_block_sound n m b ≡ true → is_stored b ≡ true →
      length (below b) ≤ 200 → ((j : ℕ) → occurs_in_block j b ≡ true → p j ≡ true) → IsFit k (block_items g f scale on k b)
  block_fit g n m k p f scale on (block items ds) x v s w h a c e d l o =
      let y = and_right (are_rows_below n items.rows) (are_props_sound m items.props && are_disjunctions_sound n m ds) e in
      let rs = rows_items g f scale on items.rows in
      let i = after k rs in
      let ki = after_least k rs in
      let ps = props_items g on i items.props in
      let j = after i ps in
      let ij = after_least i ps in
      fit-append k rs (ps ++ disjunctions_items g f scale on j ds)
      (rows_fit g m k n p f scale on items.rows w s a c h (and_left (are_rows_stored items.rows) (are_disjunctions_stored ds) d) (and_left (are_rows_below n items.rows) (are_props_sound m items.props && are_disjunctions_sound n m ds) e) (λ u q. o u (or_left (occurs_in_rows u items.rows) (occurs_below u ds) q)))
      (fit-append i ps (disjunctions_items g f scale on j ds)
      (props_fit g m i on items.props (omega (arith, h, ki)) (guard_is_below g.first m i on (omega (arith, h, ki)) a) (and_left (are_props_sound m items.props) (are_disjunctions_sound n m ds) y))
      (disjunctions_fit g n m j p f scale on ds x v s (frame_more g.first m k j p f (omega (arith, ki, ij)) w) (omega (arith, h, ki, ij)) a c (and_right (are_props_sound m items.props) (are_disjunctions_sound n m ds) y) (and_right (are_rows_stored items.rows) (are_disjunctions_stored ds) d) l
      (λ u q. o u (or_right (occurs_in_rows u items.rows) (occurs_below u ds) q))))

  disjunctions_fit : (g : Setting) (n m k : ℕ) (p : ℕ → Bool) (f : ℕ → ℕ) (scale on : Guard) (ds : Disjunctions) → IsBoxed g → g.vars ≡ n → n ≤ 500 → IsFrame g.first m k p f → g.first + m ≤ k → IsGuard m on → IsGuard m scale → are_disjunctions_sound n m ds ≡ true → are_disjunctions_stored ds ≡ true →
      length (below_disjunctions ds) ≤ 200 → ((j : ℕ) → occurs_below j ds ≡ true → p j ≡ true) → IsFit k (disjunctions_items g f scale on k ds)
  disjunctions_fit g n m k p f scale on no_disjunctions x v s w h a c e d l o = tt
  disjunctions_fit g n m k p f scale on (disjunction head js ds) x v s w h a c e d l o =
      let first_part = and_left (is_filled js && are_disjuncts_sound n m js) (are_disjunctions_sound n m ds) e in
      let sound = and_right (is_filled js) (are_disjuncts_sound n m js) first_part in
      let sel = selection g.first on head.mode js in
      let i = after k sel in
      let ki = after_least k sel in
      let t = is_hulled g head.mode js in
      let lack = first_unbounded g.box (occurring g.vars js) in
      let inner = followed i (own_items g f scale on i t js head.mark lack) (λ q. disjuncts_items g (frames_of g f scale i t js) q js) in
      let one = sel ++ inner in
      let z = after k one in
      let kz = after_least k one in
      let len = length-append (below_disjuncts js) (below_disjunctions ds) in
      let cnt = counted_within js in
      let within = λ (u : ℕ) (q : occurs_within u js ≡ true). o u (or_left (occurs_within u js) (occurs_below u ds) q) in
      fit-append k one (disjunctions_items g f scale on z ds)
      (fit-append k sel inner (selection_fit g.first k m n on head.mode js h (guard_is_below g.first m k on h a) (omega (arith, len, cnt, l)) sound)
      (flagged_fit t lack g m n i p f scale on head.mark js x (frame_more g.first m k i p f ki w) (omega (arith, h, ki)) a c sound (omega (arith, len, cnt, l)) within
      (λ u q. (let r = disjuncts_vars n m js sound u q in omega (arith, r, v)))
      (λ u q. within u (filter_has (λ r. occurs_within r js) u (up_to g.vars) q))
      (λ y q iq r test. disjuncts_fit g n m q p y js x v s (omega (arith, h, ki, iq)) r sound (and_left (are_disjuncts_stored js) (are_disjunctions_stored ds) d) (omega (arith, len, l)) test)))
      (disjunctions_fit g n m z p f scale on ds x v s (frame_more g.first m k z p f kz w) (omega (arith, h, kz)) a c (and_right (is_filled js && are_disjuncts_sound n m js) (are_disjunctions_sound n m ds) e) (and_right (are_disjuncts_stored js) (are_disjunctions_stored ds) d) (omega (arith, len, l))
      (λ u q. o u (or_right (occurs_within u js) (occurs_below u ds) q)))

  disjuncts_fit : (g : Setting) (n m k : ℕ) (p : ℕ → Bool) (x : Frames) (js : Disjuncts) → IsBoxed g → g.vars ≡ n → n ≤ 500 → g.first + m ≤ k → AreReady g.first m k p x js → are_disjuncts_sound n m js ≡ true → are_disjuncts_stored js ≡ true →
      length (below_disjuncts js) ≤ 200 → ((j : ℕ) → occurs_within j js ≡ true → test_of p x j ≡ true) → IsFit k (disjuncts_items g x k js)
  disjuncts_fit g n m k p x no_disjuncts b v s h r e d l o = tt
  disjuncts_fit g n m k p x (disjunct head t js) b v s h r e d l o =
      let y = and_left (nat_lt head.indicator m && is_block_sound n m t) (are_disjuncts_sound n m js) e in
      let i = id_test head.indicator m (and_left (nat_lt head.indicator m) (is_block_sound n m t) y) in
      let one = block_items g (frame_in x) (scale_in x head.indicator) (where_true head.indicator) k t in
      let z = after k one in
      let kz = after_least k one in
      let len = length-append (below t) (below_disjuncts js) in
      fit-append k one (disjuncts_items g (next_frames x) z js)
      (block_fit g n m k (test_of p x) (frame_in x) (scale_in x head.indicator) (where_true head.indicator) t b v s (ready_frame g.first m k p x head t js r) h i (ready_scale g.first m k head.indicator p x (disjunct head t js) i r) (and_right (nat_lt head.indicator m) (is_block_sound n m t) y) (and_left (is_stored t) (are_disjuncts_stored js) d)
      (omega (arith, len, l)) (λ u q. o u (or_left (occurs_in_block u t) (occurs_within u js) q)))
      (disjuncts_fit g n m z p (next_frames x) js b v s (omega (arith, h, kz)) (ready_next g.first m k z p x head t js kz r) (and_right (nat_lt head.indicator m && is_block_sound n m t) (are_disjuncts_sound n m js) e) (and_right (is_stored t) (are_disjuncts_stored js) d) (omega (arith, len, l))
      (λ u q. next_test p x u ∙ o u (or_right (occurs_in_block u t) (occurs_within u js) q)))

-- ---- the whole
listed_fit : (m : ModelTree) (hulled : Disjuncts → Bool) → IsSound m → IsFit 0 (listed_rewrite m hulled)
listed_fit m hulled s =
    let g = setting_of m hulled in
    let nv = length m.vars in
    let nb = length m.booleans in
    let head = head_items m in
    let body = block_items g same_place always always (nv + nb) m.root in
    let tree = tree_items m hulled in
    let few = last_few nb (below m.root) s.indicators in
    let most = s.few_booleans in
    let box = box_stored m s in
    let root = block_fit g nv nb (nv + nb) (λ j. nat_lt j nv) same_place always always m.root (record { low = box.low; high = box.high }) refl s.few_variables (own_frame nv nb (nv + nb) nv (omega arith) (omega arith)) (omega arith) tt tt s.root s.stored (omega (arith, few, most))
    (λ j q. lt_test j nv (block_vars nv nb m.root s.root j q)) in
    let l1 = after_least (after 0 head) body in
    let e = head_after m in
    let a = after-append 0 head body in
    fit-append 0 tree (goal_items m.goal (after 0 tree))
    (fit-append 0 head body (head_fit m s) (rw e root))
    (goal_fit_by (is_plain_goal m.goal) m (after 0 tree) s (omega (arith, l1, e, a)))

pub rewrites_are_fit : RewritesAreFit
rewrites_are_fit m hulled s u = run_fit None (listed_rewrite m hulled) start refl (listed_fit m hulled s) (λ x. cc) u
