-- The rows of variables, propositions, selections and the goal are such as the builder takes.
use Rattle.emission.proofs.Running.{after-append}
use Rattle.std.proofs.Common.{◌≡◌, ℕ, suc, ◌+◌, ◌^◌, ◌≤◌, ◌<◌, ℤ, pos, neg_ℤ, Bool, true, false, not, ◌&&◌, nat_eq, nat_le, nat_lt, ◌==◌, List, [], ◌∷◌, ◌++◌, length, refl, ap, sym, subst, ◌∙◌, arith, unsigned_abs, Option, Some, None, Result, Ok, Err, length-append, if◌then◌else◌}
use Rattle.std.proofs.lemmas.Bool.Decides.{nat_tests}
use Rattle.std.proofs.lemmas.Int.{ints}
use Rattle.fractions.specs.Fraction.{Fraction}
use Rattle.lp_rows.specs.Holding.{ids_below}
use Rattle.lp_rows.specs.Rows.{are_storable, ascends_from, is_storable, row_refusal}
use Rattle.lp_rows.specs.declared.kinds.Rel.{Rel}
use Rattle.lp_rows.specs.declared.kinds.Rel.TheVariants.{AtMost, AtLeast, Equal}
use Rattle.milps.proofs.Columned.{and_left, and_right, and_true}
use Rattle.propositions.specs.Sizes.{greatest_number_of, has_empty_list_of, most_arguments_of}
use Rattle.propositions.specs.Tree.{PropTree}
use Rattle.propositions.specs.Truth.{are_ids_below}
use Rattle.model_tree.specs.declared.tree.Mode.{Mode}
use Rattle.model_tree.specs.declared.tree.Mode.TheVariants.{Or, Xor}
use Rattle.block_tree.specs.Bounds.{is_end_small, is_bound, are_bounds}
use Rattle.block_tree.specs.PropLimits.{is_shallow_prop, is_prop_sound}
use Rattle.block_tree.specs.Sound.{IsSound, are_disjuncts_sound, are_last_of, are_props_sound, is_block_sound}
use Rattle.block_tree.specs.Tree.{DisjunctHead, Disjuncts, below, below_disjuncts, disjunct, no_disjuncts}
use Rattle.block_tree.specs.Values.{GoalValue, ModelTree}
use Rattle.block_tree.specs.Variables.{BooleanValue, VarValue}
use Rattle.bound_propagation.specs.Boxes.{Half, halves, turned}
use Rattle.bound_propagation.proofs.Turned.{few_terms, row_kept, turned_below, turned_length, turned_storable}
use Rattle.emission.specs.Items.{Guard, Item, Refusal, after, always, col, refused, row, stand, where_true}
use Rattle.emission.specs.Sums.{Sum, column, minus, number, plus}
use Rattle.logic_to_rows.specs.Emitted.{emitted, literal}
use Rattle.bigm_rewrite.specs.Relaxed.{Setting, gather, guarded, is_sum_storable, moved, moved_terms}
use Rattle.hybrid_rewrite.specs.Blocks.{demand, each_below, indicators, props_items, selection}
use Rattle.hybrid_rewrite.specs.Rewritten.{bool_cols, bool_rows, bound_rows, head_items, high_bound, is_zero_low, low_bound, same_place, var_cols, worth_items}
use Rattle.hybrid_rewrite.proofs.Counting.{Flat, flat_bools, flat_bounds, flat_high_bound, flat_low_bound}
use Rattle.hybrid_rewrite.proofs.Finishing.{after_least}
use Rattle.hybrid_rewrite.proofs.FitProps.{demand_fit, emitted_fit, literal_below, small_row}
use Rattle.hybrid_rewrite.proofs.Fitting.{Fits, IsFit, IsGuardBelow, Small, fit-append, fits_taken, flat_fit, minus_size, one_size, small_column, small_guarded, small_number, small_plus, small_zero}
use Rattle.hybrid_rewrite.proofs.HeadItems.{head_after}
use Rattle.hybrid_rewrite.proofs.Smalls.{goal_ids, goal_row, ids_more}
use Rattle.hybrid_rewrite.proofs.Spread.{one_at, weight_ascending, weight_at, weight_past}

-- ---- rows over the variables
pub same_terms : (ts : List (ℕ × ℤ)) → moved_terms same_place ts ≡ ts
same_terms [] = refl
same_terms (t ∷ ts) = ap (λ us. t ∷ us) (same_terms ts)

pub record IsOver (n : ℕ) (ts : List (ℕ × ℤ)) : Type 0 where
  pub few : length ts ≤ 500
  pub ascends : ascends_from 0 ts ≡ true
  pub storable : are_storable ts ≡ true
  pub ids : ids_below n ts ≡ true

turned_ascends : (least : ℕ) (ts : List (ℕ × ℤ)) → ascends_from least (turned ts) ≡ ascends_from least ts
turned_ascends least [] = refl
turned_ascends least (t ∷ ts) = ap (λ b. nat_le least t.0 && b) (turned_ascends (suc t.0) ts)

pub turned_over : (n : ℕ) (ts : List (ℕ × ℤ)) → IsOver n ts → IsOver n (turned ts)
turned_over n ts o = record {
  few = (let e = turned_length ts in let f = o.few in omega (arith, e, f));
  ascends = turned_ascends 0 ts ∙ o.ascends;
  storable = turned_storable ts ∙ o.storable;
  ids = turned_below n ts ∙ o.ids;
}

pub row_over : (n : ℕ) (ts : List (ℕ × ℤ)) (right : ℤ) → n ≤ 500 → row_refusal ts right ≡ None → ids_below n ts ≡ true → IsOver n ts
row_over n ts right h e b =
    let k = row_kept ts right e in
    record { few = few_terms n ts h k.ascends b; ascends = k.ascends; storable = k.storable; ids = b }

pub stored_size : (z : ℤ) → is_storable z ≡ true → unsigned_abs z ≤ 10 ^ 15
stored_size z h = grind (arith, nat_tests)

pub lt_test : (i n : ℕ) → i < n → nat_lt i n ≡ true
lt_test i n h = grind (arith, nat_tests)

one_off : (b : Bool) (i j : ℕ) (k : ℕ) → nat_eq i j ≡ b → (i ≡ j → ⊥) → (if b then k else 0) ≡ 0
one_off true i j k e h = absurd (h (grind (arith, nat_tests)))
one_off false i j k e h = refl

one_most : (b : Bool) (k : ℕ) → (if b then k else 0) ≤ k
one_most true k = omega arith
one_most false k = omega arith

pub fit_gather : (n : ℕ) (o : Result Item Refusal) (is : List Item) → ((i : Item) → o ≡ Ok i → Flat (i ∷ []) × IsFit n (i ∷ [])) → IsFit n is → IsFit n (gather o is)
fit_gather n (Err r) is f h = tt
fit_gather n (Ok (row q0)) [] f h = (f (row q0) refl).1
fit_gather n (Ok (row q0)) (refused r ∷ is) f h = tt
fit_gather n (Ok (row q0)) (row q ∷ is) f h = ((f (row q0) refl).1.0, h)
fit_gather n (Ok (row q0)) (col k c m ∷ is) f h = ((f (row q0) refl).1.0, h)
fit_gather n (Ok (refused r)) [] f h = tt
fit_gather n (Ok (refused r)) (refused r2 ∷ is) f h = tt
fit_gather n (Ok (refused r)) (row q ∷ is) f h = tt
fit_gather n (Ok (refused r)) (col k c m ∷ is) f h = tt
fit_gather n (Ok (col k c m)) is f h = absurd (f (col k c m) refl).0

pub if_storable : (b : Bool) (k : ℕ) (a : Sum) (r : Refusal) (i : Item) → is_sum_storable a ≡ b → (is_sum_storable a ≡ true → Fits k a) → (if b then Ok (stand AtMost a) else Err r) ≡ Ok i → IsFit k (i ∷ [])
if_storable true k a r i e f q = let s : stand AtMost a ≡ i = cc in subst (λ x. IsFit k (x ∷ [])) s (fits_taken k AtMost a (f e), tt)
if_storable false k a r i e f q = cc

abbrev pub AreOver : ℕ → List Half → Type 0
AreOver n [] = Unit {0}
AreOver n (h ∷ hs) = IsOver n h.0 × AreOver n hs

pub halves_over : (n : ℕ) (rel : Rel) (ts : List (ℕ × ℤ)) (right : ℤ) → IsOver n ts → AreOver n (halves rel ts right)
halves_over n AtMost ts right o = (o, tt)
halves_over n AtLeast ts right o = (turned_over n ts o, tt)
halves_over n Equal ts right o = (o, (turned_over n ts o, tt))

-- ---- propositions
pub guard_more : (first n k : ℕ) (c : Guard) → n ≤ k → IsGuardBelow first n c → IsGuardBelow first k c
guard_more first n k always h b = tt
guard_more first n k (where_true y) h b = omega (arith, h, b)

at_most_test : (k n : ℕ) → nat_le k n ≡ true → k ≤ n
at_most_test k n h = grind (arith, nat_tests)

pub props_fit : (g : Setting) (m n : ℕ) (c : Guard) (qs : List (PropTree × ℕ)) → g.first + m ≤ n → IsGuardBelow g.first n c → are_props_sound m qs ≡ true → IsFit n (props_items g c n qs)
props_fit g m n c [] h b e = tt
props_fit g m n c (q ∷ qs) h b e =
    let x = and_left (is_prop_sound m q.0) (are_props_sound m qs) e in
    let ids = and_left (are_ids_below m q.0) _ x in
    let y = and_right (are_ids_below m q.0) (nat_le (greatest_number_of q.0) 1000 && (is_shallow_prop q.0 && (nat_le (most_arguments_of q.0) 200 && not (has_empty_list_of q.0)))) x in
    let most = at_most_test (greatest_number_of q.0) 1000 (and_left (nat_le (greatest_number_of q.0) 1000) _ y) in
    let w = and_right (nat_le (greatest_number_of q.0) 1000) (is_shallow_prop q.0 && (nat_le (most_arguments_of q.0) 200 && not (has_empty_list_of q.0))) y in
    let v = and_right (is_shallow_prop q.0) (nat_le (most_arguments_of q.0) 200 && not (has_empty_list_of q.0)) w in
    let args = at_most_test (most_arguments_of q.0) 200 (and_left (nat_le (most_arguments_of q.0) 200) _ v) in
    let is = emitted g.first n q.0 in
    let l = literal g.first n q.0 in
    let k = after_least n is in
    let one = is ++ (demand g.first c l ∷ []) in
    let z = after n one in
    let kz = after_least n one in
    fit-append n one (props_items g c z qs)
    (fit-append n is (demand g.first c l ∷ []) (emitted_fit g.first m n q.0 h ids most args) (demand_fit (after n is) g.first c l (guard_more g.first n (after n is) c k b) (literal_below g.first m n q.0 h ids)))
    (props_fit g m z c qs (omega (arith, h, kz)) (guard_more g.first n z c kz b) (and_right (is_prop_sound m q.0) (are_props_sound m qs) e))

-- ---- selections
abbrev pub disjunct_count : Disjuncts → ℕ
disjunct_count no_disjuncts = 0
disjunct_count (disjunct head b js) = 1 + disjunct_count js

pub id_test : (i m : ℕ) → nat_lt i m ≡ true → i < m
id_test i m h = grind (arith, nat_tests)

small_indicators : (first n m nv : ℕ) (js : Disjuncts) → first + m ≤ n → are_disjuncts_sound nv m js ≡ true → Small n (disjunct_count js) (indicators first js)
unfolding indicators
small_indicators first n m nv no_disjuncts h e = small_zero n
small_indicators first n m nv (disjunct head b js) h e =
    let x = and_left (nat_lt head.indicator m && is_block_sound nv m b) (are_disjuncts_sound nv m js) e in
    let i = id_test head.indicator m (and_left (nat_lt head.indicator m) (is_block_sound nv m b) x) in
    small_plus n 1 (disjunct_count js) (column (pos 1) (first + head.indicator)) (indicators first js) (small_column n (pos 1) (first + head.indicator) one_size (omega (arith, h, i)))
    (small_indicators first n m nv js h (and_right (nat_lt head.indicator m && is_block_sound nv m b) (are_disjuncts_sound nv m js) e))

each_fit : (first n k m nv : ℕ) (js : Disjuncts) → first + m ≤ n → first + k < n → are_disjuncts_sound nv m js ≡ true → IsFit n (each_below first k js)
each_fit first n k m nv no_disjuncts h b e = tt
each_fit first n k m nv (disjunct head t js) h b e =
    let x = and_left (nat_lt head.indicator m && is_block_sound nv m t) (are_disjuncts_sound nv m js) e in
    let i = id_test head.indicator m (and_left (nat_lt head.indicator m) (is_block_sound nv m t) x) in
    small_row n (1 + 1) AtMost (plus (column (pos 1) (first + head.indicator)) (guarded first minus (where_true k))) (each_below first k js) (omega arith)
    (small_plus n 1 1 (column (pos 1) (first + head.indicator)) (guarded first minus (where_true k)) (small_column n (pos 1) (first + head.indicator) one_size (omega (arith, h, i))) (small_guarded n first minus (where_true k) minus_size b))
    (each_fit first n k m nv js h b (and_right (nat_lt head.indicator m && is_block_sound nv m t) (are_disjuncts_sound nv m js) e))

pub selection_fit : (first n m nv : ℕ) (c : Guard) (mode : Mode) (js : Disjuncts) → first + m ≤ n → IsGuardBelow first n c → disjunct_count js ≤ 200 → are_disjuncts_sound nv m js ≡ true → IsFit n (selection first c mode js)
selection_fit first n m nv always Xor js h b f e =
    small_row n (disjunct_count js + 1) Equal (plus (indicators first js) (number minus)) [] (omega (arith, f)) (small_plus n (disjunct_count js) 1 (indicators first js) (number minus) (small_indicators first n m nv js h e) (small_number n minus minus_size)) tt
selection_fit first n m nv always Or js h b f e =
    small_row n (disjunct_count js + 1) AtLeast (plus (indicators first js) (number minus)) [] (omega (arith, f)) (small_plus n (disjunct_count js) 1 (indicators first js) (number minus) (small_indicators first n m nv js h e) (small_number n minus minus_size)) tt
selection_fit first n m nv (where_true k) Xor js h b f e =
    small_row n (disjunct_count js + 1) Equal (plus (indicators first js) (guarded first minus (where_true k))) [] (omega (arith, f)) (small_plus n (disjunct_count js) 1 (indicators first js) (guarded first minus (where_true k)) (small_indicators first n m nv js h e) (small_guarded n first minus (where_true k) minus_size b)) tt
selection_fit first n m nv (where_true k) Or js h b f e =
    small_row n (disjunct_count js + 1) AtLeast (plus (indicators first js) (guarded first minus (where_true k))) (each_below first k js) (omega (arith, f)) (small_plus n (disjunct_count js) 1 (indicators first js) (guarded first minus (where_true k)) (small_indicators first n m nv js h e) (small_guarded n first minus (where_true k) minus_size b))
    (each_fit first n k m nv js h b e)

-- ---- blocks
pub counted_within : (js : Disjuncts) → disjunct_count js ≤ length (below_disjuncts js)
counted_within no_disjuncts = omega arith
counted_within (disjunct head b js) =
    let i = counted_within js in
    let e = length-append (below b) (below_disjuncts js) in
    omega (arith, i, e)

-- ---- the head
end_fits : (k i : ℕ) (f : Fraction) → i < k → (is_storable f.num && is_storable f.den) ≡ true → Fits k (plus (column f.den i) (number (neg_ℤ f.num)))
unfolding plus column number
end_fits k i f h s =
    let a = stored_size f.num (and_left (is_storable f.num) (is_storable f.den) s) in
    let b = stored_size f.den (and_right (is_storable f.num) (is_storable f.den) s) in
    record {
      few = omega arith;
      ids = and_true (nat_lt i k) true (lt_test i k h) refl;
      spread = λ j. (let m = one_most (nat_eq i j) (unsigned_abs f.den) in omega (arith, m, b));
      number = omega (arith, ints, a);
    }

low_fit : (t : Bool) (k i : ℕ) (o : Option Fraction) → i < k → is_end_small o ≡ true → IsFit k (low_bound t i o)
low_fit t k i None h s = tt
low_fit true k i (Some f) h s = tt
low_fit false k i (Some f) h s = (fits_taken k AtLeast (plus (column f.den i) (number (neg_ℤ f.num))) (end_fits k i f h s), tt)

high_fit : (k i : ℕ) (o : Option Fraction) → i < k → is_end_small o ≡ true → IsFit k (high_bound i o)
high_fit k i None h s = tt
high_fit k i (Some f) h s = (fits_taken k AtMost (plus (column f.den i) (number (neg_ℤ f.num))) (end_fits k i f h s), tt)

bounds_fit : (k i : ℕ) (vs : List VarValue) → i + length vs ≤ k → are_bounds vs ≡ true → IsFit k (bound_rows i vs)
bounds_fit k i [] h e = tt
bounds_fit k i (v ∷ vs) h e =
    let b = and_left (is_bound v.2) (are_bounds vs) e in
    let x = and_left (is_end_small v.2.low && is_end_small v.2.high) _ b in
    let lows = low_bound (is_zero_low v.2.low) i v.2.low in
    let highs = high_bound i v.2.high in
    flat_fit k (lows ++ highs) (bound_rows (suc i) vs) (flat_two lows highs (flat_low_bound (is_zero_low v.2.low) i v.2.low) (flat_high_bound i v.2.high))
    (flat_fit k lows highs (flat_low_bound (is_zero_low v.2.low) i v.2.low) (low_fit (is_zero_low v.2.low) k i v.2.low (omega (arith, h)) (and_left (is_end_small v.2.low) (is_end_small v.2.high) x)) (high_fit k i v.2.high (omega (arith, h)) (and_right (is_end_small v.2.low) (is_end_small v.2.high) x)))
    (bounds_fit k (suc i) vs (omega (arith, h)) (and_right (is_bound v.2) (are_bounds vs) e))
  where
    flat_two : (xs ys : List Item) → Flat xs → Flat ys → Flat (xs ++ ys)
    flat_two [] ys a b = b
    flat_two (col i c m ∷ xs) ys a b = absurd a
    flat_two (row q ∷ xs) ys a b = flat_two xs ys a b
    flat_two (refused r ∷ xs) ys a b = flat_two xs ys a b

bools_fit : (k i : ℕ) (bs : List BooleanValue) → i + length bs ≤ k → IsFit k (bool_rows i bs)
bools_fit k i [] h = tt
bools_fit k i (b ∷ bs) h =
    small_row k (1 + 1) AtMost (plus (column (pos 1) i) (number minus)) (bool_rows (suc i) bs) (omega arith) (small_plus k 1 1 (column (pos 1) i) (number minus) (small_column k (pos 1) i one_size (omega (arith, h))) (small_number k minus minus_size))
    (bools_fit k (suc i) bs (omega (arith, h)))

-- columns alone
abbrev AreCols : List Item → Type 0
AreCols [] = Unit {0}
AreCols (col i c m ∷ is) = AreCols is
AreCols (row r ∷ is) = ⊥
AreCols (refused r ∷ is) = ⊥

cols_fit : (n : ℕ) (xs : List Item) → AreCols xs → IsFit n xs
cols_fit n [] a = tt
cols_fit n (col i c m ∷ xs) a = cols_fit (suc n) xs a
cols_fit n (row r ∷ xs) a = absurd a
cols_fit n (refused r ∷ xs) a = absurd a

vars_cols : (i : ℕ) (vs : List VarValue) → AreCols (var_cols i vs)
vars_cols i [] = tt
vars_cols i (v ∷ vs) = vars_cols (suc i) vs

bools_cols : (i k : ℕ) (bs : List BooleanValue) → AreCols (bool_cols i k bs)
bools_cols i k [] = tt
bools_cols i k (b ∷ bs) = bools_cols (suc i) (suc k) bs

cols_two : (xs ys : List Item) → AreCols xs → AreCols ys → AreCols (xs ++ ys)
cols_two [] ys a b = b
cols_two (col i c m ∷ xs) ys a b = cols_two xs ys a b
cols_two (row q ∷ xs) ys a b = absurd a
cols_two (refused r ∷ xs) ys a b = absurd a

cols_head : (m : ModelTree) → AreCols (var_cols 0 m.vars ++ bool_cols (length m.vars) 0 m.booleans)
cols_head m = cols_two (var_cols 0 m.vars) (bool_cols (length m.vars) 0 m.booleans) (vars_cols 0 m.vars) (bools_cols (length m.vars) 0 m.booleans)

flat_later : (n : ℕ) (xs : List Item) → Flat xs → after n xs ≡ n
flat_later n [] a = refl
flat_later n (col i c m ∷ xs) a = absurd a
flat_later n (row q ∷ xs) a = flat_later n xs a
flat_later n (refused r ∷ xs) a = flat_later n xs a

flat_both : (xs ys : List Item) → Flat xs → Flat ys → Flat (xs ++ ys)
flat_both [] ys a b = b
flat_both (col i c m ∷ xs) ys a b = absurd a
flat_both (row q ∷ xs) ys a b = flat_both xs ys a b
flat_both (refused r ∷ xs) ys a b = flat_both xs ys a b

pub head_fit : (m : ModelTree) → IsSound m → IsFit 0 (head_items m)
head_fit m s =
    let cols = var_cols 0 m.vars ++ bool_cols (length m.vars) 0 m.booleans in
    let bs = bound_rows 0 m.vars in
    let rs = bool_rows (length m.vars) m.booleans in
    let e : after 0 cols ≡ length m.vars + length m.booleans = sym (flat_later (after 0 cols) (bs ++ rs) (flat_both bs rs (flat_bounds 0 m.vars) (flat_bools (length m.vars) m.booleans))) ∙ sym (after-append 0 cols (bs ++ rs)) ∙ head_after m in
    fit-append 0 cols (bs ++ rs) (cols_fit 0 cols (cols_head m))
    (rw e (flat_fit (length m.vars + length m.booleans) bs rs (flat_bounds 0 m.vars) (bounds_fit (length m.vars + length m.booleans) 0 m.vars (omega arith) s.bounds) (bools_fit (length m.vars + length m.booleans) (length m.vars) m.booleans (omega arith))))

-- ---- the goal
worth_fits : (goal : GoalValue) (n k : ℕ) → IsOver n goal.terms → n ≤ k → is_storable goal.scale ≡ true → unsigned_abs goal.constant ≤ 10 ^ 15 → Fits (suc k) (plus (plus (column goal.scale k) (moved same_place (turned goal.terms))) (number (neg_ℤ goal.constant)))
unfolding plus column moved number
worth_fits goal n k o h s c =
    let us = turned goal.terms in
    let t = turned_over n goal.terms o in
    let e : moved_terms same_place us ++ [] ≡ us = ap (λ xs. xs ++ []) (same_terms us) ∙ nil_end us in
    let z = stored_size goal.scale s in
    record {
      few = rw e (let f = t.few in omega (arith, f));
      ids = rw e (and_true (nat_lt k (suc k)) (ids_below (suc k) us) (lt_test k (suc k) (omega arith)) (ids_more n (suc k) us (omega (arith, h)) t.ids));
      spread = λ j. rw e (by_place j (nat_lt j n) refl us t z);
      number = omega (arith, ints, c);
    }
  where
    nil_end : (us : List (ℕ × ℤ)) → us ++ [] ≡ us
    nil_end [] = refl
    nil_end (u ∷ us) = ap (λ xs. u ∷ xs) (nil_end us)

    by_place : (j : ℕ) (b : Bool) → nat_lt j n ≡ b → (us : List (ℕ × ℤ)) → IsOver n us → unsigned_abs goal.scale ≤ 10 ^ 15 → one_at j (k, goal.scale) + weight_at j us ≤ 10 ^ 15
    by_place j true q us t z = let x : j < n = grind (arith, nat_tests) in let y : one_at j (k, goal.scale) ≡ 0 = one_off (nat_eq k j) k j (unsigned_abs goal.scale) refl (λ p. omega arith) in let a = weight_ascending j 0 us t.ascends t.storable in omega (arith, a, y)
    by_place j false q us t z = let x : n ≤ j = grind (arith, nat_tests) in let y = weight_past j n us x t.ids in let m = one_most (nat_eq k j) (unsigned_abs goal.scale) in omega (arith, y, m, z)

pub goal_fit_by : (b : Bool) (m : ModelTree) (k : ℕ) → IsSound m → length m.vars ≤ k → IsFit k (if b then [] else worth_items m.goal k)
goal_fit_by true m k s h = tt
goal_fit_by false m k s h =
    let g = m.goal in
    let e = goal_row m s in
    let kept_goal = row_kept g.terms g.constant e in
    let scale = and_right _ (is_storable g.scale) s.goal in
    (fits_taken (suc k) Equal (plus (plus (column g.scale k) (moved same_place (turned g.terms))) (number (neg_ℤ g.constant))) (worth_fits g (length m.vars) k (row_over (length m.vars) g.terms g.constant s.few_variables e (goal_ids m s)) h scale kept_goal.small), tt)

-- ---- the whole
pub last_few : (m : ℕ) (hs : List DisjunctHead) → are_last_of m hs ≡ true → length hs ≤ m
last_few m [] e = omega arith
last_few m (h ∷ hs) e = let x = and_left (h.indicator + suc (length hs) == m) (are_last_of m hs) e in place_few h.indicator (length hs) m x
  where
    place_few : (i n m : ℕ) → (i + suc n == m) ≡ true → suc n ≤ m
    place_few i n m x = grind (arith, nat_tests)
