-- The force over a model is bounded.
use Rattle.std.proofs.Common.{◌≡◌, ◌<◌, ◌≤◌, ℕ, suc, ◌+◌, ℤ, pos, neg_ℤ, ◌+ℤ◌, Bool, true, false, not, ◌&&◌, List, [], ◌∷◌, ◌++◌, length, Option, None, Some, nat_eq, nat_le, nat_lt, int_le, unsigned_abs, if◌then◌else◌, refl, sym, subst, arith}
use Rattle.std.proofs.lemmas.Int.{ints}
use Rattle.std.proofs.lemmas.Bool.Decides.{nat_tests}
use Rattle.std.proofs.lemmas.List.{length-append, length-map}
use Rattle.std.specs.List.{list_all}
use Rattle.std.specs.Option.{is_none}
use Rattle.fractions.specs.Fraction.{Fraction}
use Rattle.outcomes.specs.Calls.{refuse_if}
use Rattle.gdp_tables.specs.declared.tri.Tri.{Tri}
use Rattle.gdp_tables.specs.declared.tri.Tri.TheVariants.{No, Yes, Open}
use Rattle.lp_rows.specs.declared.columns.Col.{Col}
use Rattle.lp_rows.specs.declared.columns.Sign.{Sign}
use Rattle.lp_rows.specs.declared.columns.Sign.TheVariants.{Free, Nonneg}
use Rattle.lp_rows.specs.declared.kinds.Rel.{Rel}
use Rattle.lp_rows.specs.declared.kinds.Rel.TheVariants as rel
use Rattle.lp_rows.specs.declared.kinds.Sense.{Sense}
use Rattle.lp_rows.specs.declared.kinds.Sense.TheVariants.{Min, Max}
use Rattle.lp_rows.specs.Holding.{ids_below}
use Rattle.lp_rows.specs.Rows.{RowValue, is_storable, ascends_from, has_zero, are_storable, row_refusal}
use Rattle.lp_frame.specs.declared.force.AtMost.{AtMost}
use Rattle.lp_frame.specs.Force.{are_terms, is_row}
use Rattle.fractions.specs.Width.{is_narrow}
use Rattle.lp_frame.specs.Split.{place, width_of}
use Rattle.proof_tree.specs.declared.path.Split.{Split}
use Rattle.proof_tree.specs.declared.path.Split.TheVariants.{Int, Truth}
use Rattle.proof_tree.specs.declared.path.Half.{Half}
use Rattle.model_tree.specs.Bounds.{is_bound, is_end_small, are_crossed, are_bounds}
use Rattle.model_tree.specs.Sound.{are_rows_below, are_props_sound, is_filled, is_block_sound, are_disjunctions_sound, are_disjuncts_sound, is_goal_sound, are_rows_stored, is_stored, are_disjunctions_stored, are_disjuncts_stored}
use Rattle.model_tree.specs.Tree.{BlockTree, block, Disjunctions, no_disjunctions, disjunction, Disjuncts, no_disjuncts, disjunct, row_count, row_count_below, row_count_within}
use Rattle.model_tree.specs.Variables.{VarValue}
use Rattle.model_tree.specs.Values.{GoalValue, ModelTree}
use Rattle.model_tree.specs.View.{rows_in}
use Rattle.model_tree.proofs.Bools.{first_holds, second_holds, and_true}
use Rattle.model_forces.specs.Paths.{tris_at, least_of, greatest_of, high_after, low_after, high_on, low_on, MayStand, IsPathOf}
use Rattle.model_forces.specs.Forces.{is_nothing, cols_of, negated_terms, single, low_rows, high_rows, rows_of_vars, at_most, at_most_rows, where_yes, rows_below, rows_of_disjunctions, rows_of_disjuncts, path_low, path_high, rows_of_path, goal_terms, goal_of, rows_on}
use Rattle.model_forces.specs.Laws.{ForceIsBounded}

-- numbers
abs_neg : (z : ℤ) → unsigned_abs (neg_ℤ z) ≡ unsigned_abs z
abs_neg z = grind (arith, ints)

storable_narrow : (z : ℤ) → is_storable z ≡ true → is_narrow z ≡ true
storable_narrow z h = grind (arith, nat_tests)

neg_narrow : (z : ℤ) → is_narrow z ≡ true → is_narrow (neg_ℤ z) ≡ true
neg_narrow z h = rw (abs_neg z) h

-- lists of rows
good_append : (n : ℕ) (xs ys : List AtMost) → list_all (is_row n) xs ≡ true → list_all (is_row n) ys ≡ true → list_all (is_row n) (xs ++ ys) ≡ true
good_append n [] ys h k = k
good_append n (x ∷ xs) ys h k =
    and_true (is_row n x) (list_all (is_row n) (xs ++ ys)) (first_holds (is_row n x) (list_all (is_row n) xs) h) (good_append n xs ys (second_holds (is_row n x) (list_all (is_row n) xs) h) k)

good_one : (n : ℕ) (x : AtMost) → is_row n x ≡ true → list_all (is_row n) (x ∷ []) ≡ true
good_one n x h = and_true (is_row n x) true h refl

and_three : (a b c : Bool) → a ≡ true → b ≡ true → c ≡ true → (a && b && c) ≡ true
and_three a b c h k l = and_true (a && b) c (and_true a b h k) l

single_good : (n j : ℕ) (a b : ℤ) → j < n → is_narrow a ≡ true → is_narrow b ≡ true → is_row n (single j a b) ≡ true
single_good n j a b l h k =
    let least : nat_le 0 j ≡ true = grind (arith, nat_tests) in
    let below : nat_lt j n ≡ true = grind (arith, nat_tests) in
    and_true (are_terms n ((j, a) ∷ [])) (is_narrow b)
    (and_three (nat_le 0 j && true) (nat_lt j n && true) (is_narrow a && true) (and_true (nat_le 0 j) true least refl) (and_true (nat_lt j n) true below refl) (and_true (is_narrow a) true h refl)) k

-- variables
if_good : (n : ℕ) (b : Bool) (rows : List AtMost) → list_all (is_row n) rows ≡ true → list_all (is_row n) (if b then [] else rows) ≡ true
if_good n true rows h = refl
if_good n false rows h = h

low_good : (n j : ℕ) (o : Option Fraction) → j < n → is_end_small o ≡ true → list_all (is_row n) (low_rows o j) ≡ true
low_good n j None l h = refl
low_good n j (Some f) l h =
    let row = single j (neg_ℤ f.den) (neg_ℤ f.num) in
    if_good n (is_nothing f.num) (row ∷ [])
    (good_one n row (single_good n j (neg_ℤ f.den) (neg_ℤ f.num) l (neg_narrow f.den (storable_narrow f.den (second_holds (is_storable f.num) (is_storable f.den) h))) (neg_narrow f.num (storable_narrow f.num (first_holds (is_storable f.num) (is_storable f.den) h)))))

high_good : (n j : ℕ) (o : Option Fraction) → j < n → is_end_small o ≡ true → list_all (is_row n) (high_rows o j) ≡ true
high_good n j None l h = refl
high_good n j (Some f) l h =
    good_one n (single j f.den f.num) (single_good n j f.den f.num l (storable_narrow f.den (second_holds (is_storable f.num) (is_storable f.den) h)) (storable_narrow f.num (first_holds (is_storable f.num) (is_storable f.den) h)))

vars_good : (n j : ℕ) (vs : List VarValue) → j + length vs ≤ n → are_bounds vs ≡ true → list_all (is_row n) (rows_of_vars vs j) ≡ true
vars_good n j [] l h = refl
vars_good n j (v ∷ vs) l h =
    let bound = first_holds (is_bound v.2) (are_bounds vs) h in
    let uncrossed = not (are_crossed v.2.low v.2.high) in
    let both = first_holds (is_end_small v.2.low && is_end_small v.2.high) uncrossed bound in
    let here : j < n = omega arith in
    good_append n (low_rows v.2.low j) (high_rows v.2.high j ++ rows_of_vars vs (j + 1)) (low_good n j v.2.low here (first_holds (is_end_small v.2.low) (is_end_small v.2.high) both))
    (good_append n (high_rows v.2.high j) (rows_of_vars vs (j + 1)) (high_good n j v.2.high here (second_holds (is_end_small v.2.low) (is_end_small v.2.high) both))
    (vars_good n (j + 1) vs (omega arith) (second_holds (is_bound v.2) (are_bounds vs) h)))

-- terms
refused_parts : {E : Type 0} (a z s : Bool) (one two three : E) → is_none (refuse_if (not a) one (refuse_if z two (refuse_if (not s) three None))) ≡ true → (a ≡ true) × (s ≡ true)
refused_parts true true s one two three h = cc
refused_parts true false true one two three h = (refl, refl)
refused_parts true false false one two three h = cc
refused_parts false z s one two three h = cc

all_narrow : (ts : List (ℕ × ℤ)) → are_storable ts ≡ true → list_all (λ t. is_narrow t.1) ts ≡ true
all_narrow [] h = refl
all_narrow (t ∷ ts) h =
    and_true (is_narrow t.1) (list_all (λ t. is_narrow t.1) ts) (storable_narrow t.1 (first_holds (is_storable t.1) (are_storable ts) h)) (all_narrow ts (second_holds (is_storable t.1) (are_storable ts) h))

ascends_negated : (least : ℕ) (ts : List (ℕ × ℤ)) → ascends_from least ts ≡ true → ascends_from least (negated_terms ts) ≡ true
ascends_negated least [] h = refl
ascends_negated least (t ∷ ts) h =
    and_true (nat_le least t.0) (ascends_from (suc t.0) (negated_terms ts)) (first_holds (nat_le least t.0) (ascends_from (suc t.0) ts) h) (ascends_negated (suc t.0) ts (second_holds (nat_le least t.0) (ascends_from (suc t.0) ts) h))

below_negated : (n : ℕ) (ts : List (ℕ × ℤ)) → ids_below n ts ≡ true → ids_below n (negated_terms ts) ≡ true
below_negated n [] h = refl
below_negated n (t ∷ ts) h =
    and_true (nat_lt t.0 n) (ids_below n (negated_terms ts)) (first_holds (nat_lt t.0 n) (ids_below n ts) h) (below_negated n ts (second_holds (nat_lt t.0 n) (ids_below n ts) h))

narrow_negated : (ts : List (ℕ × ℤ)) → list_all (λ t. is_narrow t.1) ts ≡ true → list_all (λ t. is_narrow t.1) (negated_terms ts) ≡ true
narrow_negated [] h = refl
narrow_negated (t ∷ ts) h =
    and_true (is_narrow (neg_ℤ t.1)) (list_all (λ t. is_narrow t.1) (negated_terms ts)) (neg_narrow t.1 (first_holds (is_narrow t.1) (list_all (λ t. is_narrow t.1) ts) h)) (narrow_negated ts (second_holds (is_narrow t.1) (list_all (λ t. is_narrow t.1) ts) h))

terms_good : (n : ℕ) (ts : List (ℕ × ℤ)) (b : ℤ) → ids_below n ts ≡ true → is_none (row_refusal ts b) ≡ true → (are_terms n ts ≡ true) × (is_narrow b ≡ true)
terms_good n ts b l h =
    let parts = refused_parts (ascends_from 0 ts) (has_zero ts) (are_storable ts && is_storable b) _ _ _ h in (
      and_three (ascends_from 0 ts) (ids_below n ts) (list_all (λ t. is_narrow t.1) ts) parts.0 l (all_narrow ts (first_holds (are_storable ts) (is_storable b) parts.1)),
      storable_narrow b (second_holds (are_storable ts) (is_storable b) parts.1),
    )

negated_good : (n : ℕ) (ts : List (ℕ × ℤ)) → are_terms n ts ≡ true → are_terms n (negated_terms ts) ≡ true
negated_good n ts h =
    let a = ascends_from 0 ts in
    let b = ids_below n ts in
    let c = list_all (λ t. is_narrow t.1) ts in
    and_three (ascends_from 0 (negated_terms ts)) (ids_below n (negated_terms ts)) (list_all (λ t. is_narrow t.1) (negated_terms ts)) (ascends_negated 0 ts (first_holds a b (first_holds (a && b) c h)))
    (below_negated n ts (second_holds a b (first_holds (a && b) c h)))
    (narrow_negated ts (second_holds (a && b) c h))

plain_good : (n : ℕ) (ts : List (ℕ × ℤ)) (b : ℤ) → are_terms n ts ≡ true → is_narrow b ≡ true → list_all (is_row n) (record { terms = ts; bound = b } ∷ []) ≡ true
plain_good n ts b h k = good_one n (record { terms = ts; bound = b }) (and_true (are_terms n ts) (is_narrow b) h k)

turned_good : (n : ℕ) (ts : List (ℕ × ℤ)) (b : ℤ) → are_terms n ts ≡ true → is_narrow b ≡ true → list_all (is_row n) (record { terms = negated_terms ts; bound = neg_ℤ b } ∷ []) ≡ true
turned_good n ts b h k = plain_good n (negated_terms ts) (neg_ℤ b) (negated_good n ts h) (neg_narrow b k)

at_most_good : (n : ℕ) (r : Rel) (ts : List (ℕ × ℤ)) (b : ℤ) → are_terms n ts ≡ true → is_narrow b ≡ true → list_all (is_row n) (at_most r ts b) ≡ true
at_most_good n rel.AtMost ts b h k = plain_good n ts b h k
at_most_good n rel.AtLeast ts b h k = turned_good n ts b h k
at_most_good n rel.Equal ts b h k =
    good_append n (record { terms = ts; bound = b } ∷ []) (record { terms = negated_terms ts; bound = neg_ℤ b } ∷ []) (plain_good n ts b h k) (turned_good n ts b h k)

rows_good : (n : ℕ) (rs : List (RowValue × ℕ)) → are_rows_below n rs ≡ true → are_rows_stored rs ≡ true → list_all (is_row n) (at_most_rows rs) ≡ true
rows_good n [] l h = refl
rows_good n (r ∷ rs) l h =
    let good = terms_good n r.0.terms r.0.right (first_holds (ids_below n r.0.terms) (are_rows_below n rs) l) (first_holds (is_none (row_refusal r.0.terms r.0.right)) (are_rows_stored rs) h) in
    good_append n (at_most r.0.rel r.0.terms r.0.right) (at_most_rows rs) (at_most_good n r.0.rel r.0.terms r.0.right good.0 good.1)
    (rows_good n rs (second_holds (ids_below n r.0.terms) (are_rows_below n rs) l) (second_holds (is_none (row_refusal r.0.terms r.0.right)) (are_rows_stored rs) h))

own_good : (n m : ℕ) (b : BlockTree) → is_block_sound n m b ≡ true → is_stored b ≡ true → list_all (is_row n) (at_most_rows (rows_in b)) ≡ true
own_good n m (block items ds) s h =
    rows_good n items.rows (first_holds (are_rows_below n items.rows) (are_props_sound m items.props && are_disjunctions_sound n m ds) s) (first_holds (are_rows_stored items.rows) (are_disjunctions_stored ds) h)

where_good : (n : ℕ) (t : Tri) (rows : List AtMost) → list_all (is_row n) rows ≡ true → list_all (is_row n) (where_yes t rows) ≡ true
where_good n No rows h = refl
where_good n Yes rows h = h
where_good n Open rows h = refl

mutual
  below_good : (n m : ℕ) (b : BlockTree) (t : ℕ → Tri) → is_block_sound n m b ≡ true → is_stored b ≡ true → list_all (is_row n) (rows_below b t) ≡ true
  below_good n m (block items ds) t s h =
      let props = are_props_sound m items.props in
      below_all_good n m ds t (second_holds props (are_disjunctions_sound n m ds) (second_holds (are_rows_below n items.rows) (props && are_disjunctions_sound n m ds) s)) (second_holds (are_rows_stored items.rows) (are_disjunctions_stored ds) h)

  below_all_good : (n m : ℕ) (ds : Disjunctions) (t : ℕ → Tri) → are_disjunctions_sound n m ds ≡ true → are_disjunctions_stored ds ≡ true → list_all (is_row n) (rows_of_disjunctions ds t) ≡ true
  below_all_good n m no_disjunctions t s h = refl
  below_all_good n m (disjunction head js ds) t s h =
      let filled = is_filled js in
      let inside = are_disjuncts_sound n m js in
      good_append n (rows_of_disjuncts js t) (rows_of_disjunctions ds t)
      (within_good n m js t (second_holds filled inside (first_holds (filled && inside) (are_disjunctions_sound n m ds) s)) (first_holds (are_disjuncts_stored js) (are_disjunctions_stored ds) h))
      (below_all_good n m ds t (second_holds (filled && inside) (are_disjunctions_sound n m ds) s) (second_holds (are_disjuncts_stored js) (are_disjunctions_stored ds) h))

  within_good : (n m : ℕ) (js : Disjuncts) (t : ℕ → Tri) → are_disjuncts_sound n m js ≡ true → are_disjuncts_stored js ≡ true → list_all (is_row n) (rows_of_disjuncts js t) ≡ true
  within_good n m no_disjuncts t s h = refl
  within_good n m (disjunct head b js) t s h =
      let place_is = nat_lt head.indicator m in
      let inside = is_block_sound n m b in
      let later = are_disjuncts_sound n m js in
      let here = second_holds place_is inside (first_holds (place_is && inside) later s) in
      let made = first_holds (is_stored b) (are_disjuncts_stored js) h in
      good_append n (where_yes (t head.indicator) (at_most_rows (rows_in b))) (rows_below b t ++ rows_of_disjuncts js t) (where_good n (t head.indicator) (at_most_rows (rows_in b)) (own_good n m b here made))
      (good_append n (rows_below b t) (rows_of_disjuncts js t) (below_good n m b t here made)
      (within_good n m js t (second_holds (place_is && inside) later s) (second_holds (is_stored b) (are_disjuncts_stored js) h)))

-- the bounds of a path
abbrev IsEndNarrow : Option ℤ → Type 0
IsEndNarrow None = Unit {0}
IsEndNarrow (Some z) = is_narrow z ≡ true

one_narrow : (b : Bool) (z y : ℤ) → is_narrow z ≡ true → is_narrow y ≡ true → is_narrow (if b then z else y) ≡ true
one_narrow true z y h k = h
one_narrow false z y h k = k

least_narrow : (z : ℤ) (o : Option ℤ) → is_narrow z ≡ true → IsEndNarrow o → is_narrow (least_of z o) ≡ true
least_narrow z None h k = h
least_narrow z (Some y) h k = one_narrow (int_le z y) z y h k

greatest_narrow : (z : ℤ) (o : Option ℤ) → is_narrow z ≡ true → IsEndNarrow o → is_narrow (greatest_of z o) ≡ true
greatest_narrow z None h k = h
greatest_narrow z (Some y) h k = one_narrow (int_le z y) y z k h

end_by : (b : Bool) (z : ℤ) (o : Option ℤ) → is_narrow z ≡ true → IsEndNarrow o → IsEndNarrow (if b then Some z else o)
end_by true z o h k = h
end_by false z o h k = k

high_narrow : (m : ModelTree) (path : List Half) (s : Split) (second : Bool) (j : ℕ) (o : Option ℤ) → MayStand m path s → IsEndNarrow o → IsEndNarrow (high_after s second j o)
high_narrow m path (Int c z) true j o a k = k
high_narrow m path (Int c z) false j o a k = end_by (nat_eq c j) (least_of z o) o (least_narrow z o a.1 k) k
high_narrow m path (Truth id) second j o a k = k

low_narrow : (m : ModelTree) (path : List Half) (s : Split) (second : Bool) (j : ℕ) (o : Option ℤ) → MayStand m path s → IsEndNarrow o → IsEndNarrow (low_after s second j o)
low_narrow m path (Int c z) true j o a k = end_by (nat_eq c j) (greatest_of (z +ℤ pos 1) o) o (greatest_narrow (z +ℤ pos 1) o a.2 k) k
low_narrow m path (Int c z) false j o a k = k
low_narrow m path (Truth id) second j o a k = k

highs_narrow : (m : ModelTree) (path : List Half) (j : ℕ) → IsPathOf m path → IsEndNarrow (high_on path j)
highs_narrow m [] j a = tt
highs_narrow m (h ∷ path) j a = high_narrow m path h.split h.second j (high_on path j) a.0 (highs_narrow m path j a.1)

lows_narrow : (m : ModelTree) (path : List Half) (j : ℕ) → IsPathOf m path → IsEndNarrow (low_on path j)
lows_narrow m [] j a = tt
lows_narrow m (h ∷ path) j a = low_narrow m path h.split h.second j (low_on path j) a.0 (lows_narrow m path j a.1)

path_low_good : (n j : ℕ) (o : Option ℤ) → j < n → IsEndNarrow o → list_all (is_row n) (path_low o j) ≡ true
path_low_good n j None l k = refl
path_low_good n j (Some z) l k = good_one n (single j (neg_ℤ (pos 1)) (neg_ℤ z)) (single_good n j (neg_ℤ (pos 1)) (neg_ℤ z) l refl (neg_narrow z k))

path_high_good : (n j : ℕ) (o : Option ℤ) → j < n → IsEndNarrow o → list_all (is_row n) (path_high o j) ≡ true
path_high_good n j None l k = refl
path_high_good n j (Some z) l k = good_one n (single j (pos 1) z) (single_good n j (pos 1) z l refl k)

path_good : (m : ModelTree) (path : List Half) (n j : ℕ) (vs : List VarValue) → IsPathOf m path → j + length vs ≤ n → list_all (is_row n) (rows_of_path vs j path) ≡ true
path_good m path n j [] a l = refl
path_good m path n j (v ∷ vs) a l =
    let here : j < n = omega arith in
    good_append n (path_low (low_on path j) j) (path_high (high_on path j) j ++ rows_of_path vs (j + 1) path) (path_low_good n j (low_on path j) here (lows_narrow m path j a))
    (good_append n (path_high (high_on path j) j) (rows_of_path vs (j + 1) path) (path_high_good n j (high_on path j) here (highs_narrow m path j a)) (path_good m path n (j + 1) vs a (omega arith)))

-- how many rows
if_few : (b : Bool) (row : AtMost) → length {A = AtMost} (if b then [] else row ∷ []) ≤ 1
if_few true row = omega arith
if_few false row = omega arith

low_few : (o : Option Fraction) (j : ℕ) → length (low_rows o j) ≤ 1
low_few None j = omega arith
low_few (Some f) j = if_few (is_nothing f.num) (single j (neg_ℤ f.den) (neg_ℤ f.num))

high_few : (o : Option Fraction) (j : ℕ) → length (high_rows o j) ≤ 1
high_few None j = omega arith
high_few (Some f) j = omega arith

vars_few : (vs : List VarValue) (j : ℕ) → length (rows_of_vars vs j) ≤ length vs + length vs
vars_few [] j = omega arith
vars_few (v ∷ vs) j =
    let a = low_few v.2.low j in
    let b = high_few v.2.high j in
    let c = vars_few vs (j + 1) in
    let d = length-append (low_rows v.2.low j) (high_rows v.2.high j ++ rows_of_vars vs (j + 1)) in
    let e = length-append (high_rows v.2.high j) (rows_of_vars vs (j + 1)) in
    omega (arith, a, b, c, d, e)

path_low_few : (o : Option ℤ) (j : ℕ) → length (path_low o j) ≤ 1
path_low_few None j = omega arith
path_low_few (Some z) j = omega arith

path_high_few : (o : Option ℤ) (j : ℕ) → length (path_high o j) ≤ 1
path_high_few None j = omega arith
path_high_few (Some z) j = omega arith

path_few : (vs : List VarValue) (j : ℕ) (path : List Half) → length (rows_of_path vs j path) ≤ length vs + length vs
path_few [] j path = omega arith
path_few (v ∷ vs) j path =
    let a = path_low_few (low_on path j) j in
    let b = path_high_few (high_on path j) j in
    let c = path_few vs (j + 1) path in
    let d = length-append (path_low (low_on path j) j) (path_high (high_on path j) j ++ rows_of_path vs (j + 1) path) in
    let e = length-append (path_high (high_on path j) j) (rows_of_path vs (j + 1) path) in
    omega (arith, a, b, c, d, e)

at_most_few : (r : Rel) (ts : List (ℕ × ℤ)) (b : ℤ) → length (at_most r ts b) ≤ 2
at_most_few rel.AtMost ts b = omega arith
at_most_few rel.AtLeast ts b = omega arith
at_most_few rel.Equal ts b = omega arith

rows_few : (rs : List (RowValue × ℕ)) → length (at_most_rows rs) ≤ length rs + length rs
rows_few [] = omega arith
rows_few (r ∷ rs) =
    let a = at_most_few r.0.rel r.0.terms r.0.right in
    let b = rows_few rs in
    let c = length-append (at_most r.0.rel r.0.terms r.0.right) (at_most_rows rs) in
    omega (arith, a, b, c)

where_few : (t : Tri) (rows : List AtMost) → length (where_yes t rows) ≤ length rows
where_few No rows = omega arith
where_few Yes rows = omega arith
where_few Open rows = omega arith

mutual
  block_few : (b : BlockTree) (t : ℕ → Tri) → length (at_most_rows (rows_in b)) + length (rows_below b t) ≤ row_count b + row_count b
  block_few (block items ds) t = let a = rows_few items.rows in let b = below_few ds t in omega (arith, a, b)

  below_few : (ds : Disjunctions) (t : ℕ → Tri) → length (rows_of_disjunctions ds t) ≤ row_count_below ds + row_count_below ds
  below_few no_disjunctions t = omega arith
  below_few (disjunction head js ds) t =
      let a = within_few js t in
      let b = below_few ds t in
      let c = length-append (rows_of_disjuncts js t) (rows_of_disjunctions ds t) in
      omega (arith, a, b, c)

  within_few : (js : Disjuncts) (t : ℕ → Tri) → length (rows_of_disjuncts js t) ≤ row_count_within js + row_count_within js
  within_few no_disjuncts t = omega arith
  within_few (disjunct head b js) t =
      let own = at_most_rows (rows_in b) in
      let a = where_few (t head.indicator) own in
      let c = block_few b t in
      let d = within_few js t in
      let e = length-append (where_yes (t head.indicator) own) (rows_below b t ++ rows_of_disjuncts js t) in
      let f = length-append (rows_below b t) (rows_of_disjuncts js t) in
      omega (arith, a, c, d, e, f)

-- how many columns
width_few : (s : Sign) → width_of s ≤ 2
width_few Free = omega arith
width_few Nonneg = omega arith

place_few : (cols : List Col) → place cols (length cols) ≤ length cols + length cols
place_few [] = omega arith
place_few (c ∷ cs) = let a = width_few c.sign in let b = place_few cs in omega (arith, a, b)

-- the goal
goal_good : (n : ℕ) (g : GoalValue) (goal : Bool) → is_goal_sound n g ≡ true → are_terms n (goal_of g goal) ≡ true
goal_good n g false h = refl
goal_good n g true h =
    let a = ids_below n g.terms in
    let b = is_none (row_refusal g.terms g.constant) in
    sense_good n g.sense g.terms (terms_good n g.terms g.constant (first_holds a b (goal_parts a b _ _ h)) (second_holds a b (goal_parts a b _ _ h))).0
  where
    goal_parts : (a b c d : Bool) → (a && b && c && d) ≡ true → (a && b) ≡ true
    goal_parts a b c d k = first_holds (a && b) c (first_holds (a && b && c) d k)

    sense_good : (n : ℕ) (sense : Sense) (ts : List (ℕ × ℤ)) → are_terms n ts ≡ true → are_terms n (goal_terms sense ts) ≡ true
    sense_good n Min ts k = k
    sense_good n Max ts k = negated_good n ts k

at_most_test : (a b : ℕ) → a ≤ b → nat_le a b ≡ true
at_most_test a b l = grind (arith, nat_tests)

pub force_is_bounded : ForceIsBounded
force_is_bounded m path goal s a =
    let n = length (cols_of m.vars) in
    let size : n ≡ length m.vars = length-map m.vars _ in
    let t = tris_at m path in
    let vars = rows_of_vars m.vars 0 in
    let own = at_most_rows (rows_in m.root) in
    let below = rows_below m.root t in
    let bounds = rows_of_path m.vars 0 path in
    let few : length (rows_on m path) ≤ 4000 = (
    let b = vars_few m.vars 0 in
    let c = block_few m.root t in
    let d = path_few m.vars 0 path in
    let e = length-append vars (own ++ (below ++ bounds)) in
    let f = length-append own (below ++ bounds) in
    let g = length-append below bounds in
    let h = s.few_variables in
    let i = s.few_rows in
    omega (arith, b, c, d, e, f, g, h, i)) in
    let columns : place (cols_of m.vars) n ≤ 4000 = (let b = place_few (cols_of m.vars) in let h = s.few_variables in omega (arith, b, h, size)) in
    let root = subst (λ k. is_block_sound k (length m.booleans) m.root ≡ true) (sym size) s.root in
    let rows : list_all (is_row n) (rows_on m path) ≡ true =
    good_append n vars (own ++ (below ++ bounds)) (vars_good n 0 m.vars (omega (arith, size)) s.bounds)
    (good_append n own (below ++ bounds) (own_good n (length m.booleans) m.root root s.stored)
    (good_append n below bounds (below_good n (length m.booleans) m.root t root s.stored) (path_good m path n 0 m.vars a (omega (arith, size))))) in
    let a4 = nat_le (length (rows_on m path)) 4000 in
    let b4 = nat_le (place (cols_of m.vars) n) 4000 in
    and_true (a4 && b4 && list_all (is_row n) (rows_on m path)) (are_terms n (goal_of m.goal goal)) (and_three a4 b4 (list_all (is_row n) (rows_on m path)) (at_most_test (length (rows_on m path)) 4000 few) (at_most_test (place (cols_of m.vars) n) 4000 columns) rows)
    (goal_good n m.goal goal (subst (λ k. is_goal_sound k m.goal ≡ true) (sym size) s.goal))
