-- A point that satisfies a block makes the conditions of its items true.
use Rattle.std.proofs.Common.{◌≡◌, ℕ, zero, suc, ◌+◌, ◌<◌, Bool, true, false, not, ◌&&◌, ◌||◌, List, [], ◌∷◌, ◌++◌, map, length, Option, None, Some, slice_index_or, nat_eq, nat_le, refl, ap, sym, ◌∙◌, arith, if◌then◌else◌}
use Rattle.std.specs.Int.{from_bool}
use Rattle.std.specs.List.{list_all}
use Rattle.propositions.specs.Tree.{PropTree, atom}
use Rattle.propositions.specs.Truth.{truth_of, truths_of, are_all_true, true_count as count_of}
use Rattle.model_tree.specs.declared.tree.Mode.{Mode}
use Rattle.model_tree.specs.declared.tree.Mode.TheVariants.{Xor, Or}
use Rattle.model_items.specs.Items.{enforced, indicators_of, selection, each_implies, choice, conditions_in, conditions_of_disjunctions, conditions_of_disjuncts, conditions, item_count_of, condition_of}
use Rattle.point_tests.specs.Satisfied.{PointOf, rows_hold, props_hold, true_count, mode_allows, is_off, are_disjunctions_off, are_disjuncts_off, is_satisfied, are_disjunctions_satisfied, are_disjuncts_satisfied, is_model_point}
use Rattle.model_tree.specs.Tree.{BlockTree, block, Disjunctions, no_disjunctions, disjunction, Disjuncts, no_disjuncts, disjunct}
use Rattle.model_tree.specs.Values.{ModelTree}
use Rattle.propositions.proofs.Layers.{count_more}
use Rattle.point_tests.proofs.SatisfiedLemmas.{model_point_parts}
use Rattle.model_tree.proofs.Bools.{first_holds, second_holds, and_true}

or_left : (a b : Bool) → a ≡ true → (a || b) ≡ true
or_left true b h = refl
or_left false b h = cc

or_right : (a b : Bool) → b ≡ true → (a || b) ≡ true
or_right true b h = refl
or_right false b h = h

-- every condition is true
abbrev pub meets : (ℕ → Bool) → List PropTree → Bool
meets y cs = list_all (λ c. truth_of c y) cs

meets_both : (y : ℕ → Bool) (cs ds : List PropTree) → meets y cs ≡ true → meets y ds ≡ true → meets y (cs ++ ds) ≡ true
meets_both y [] ds h k = k
meets_both y (c ∷ cs) ds h k =
    and_true (truth_of c y) (meets y (cs ++ ds)) (first_holds (truth_of c y) (meets y cs) h) (meets_both y cs ds (second_holds (truth_of c y) (meets y cs) h) k)

meets_at : (y : ℕ → Bool) (cs : List PropTree) (n : ℕ) (other : PropTree) → meets y cs ≡ true → n < length cs → truth_of (slice_index_or cs n other) y ≡ true
meets_at y [] n other h k = absurd (omega arith)
meets_at y (c ∷ cs) zero other h k = first_holds (truth_of c y) (meets y cs) h
meets_at y (c ∷ cs) (suc n) other h k = meets_at y cs n other (second_holds (truth_of c y) (meets y cs) h) (omega arith)

-- the block stands at the root, or its indicator is true
abbrev pub is_on : (ℕ → Bool) → Option ℕ → Bool
is_on y None = true
is_on y (Some k) = y k

adds : (b : Bool) (n : ℕ) → from_bool b + n ≡ (if b then suc n else n)
adds true n = omega arith
adds false n = omega arith

pub counted : (js : Disjuncts) (y : ℕ → Bool) → count_of (truths_of (indicators_of js) y) ≡ true_count js y
counted no_disjuncts y = refl
counted (disjunct head b js) y =
    count_more (λ b. b) (y head.indicator) (truths_of (indicators_of js) y) ∙ ap (λ n. from_bool (y head.indicator) + n) (counted js y) ∙ adds (y head.indicator) (true_count js y)

pub selected : (mode : Mode) (js : Disjuncts) (y : ℕ → Bool) → truth_of (selection mode js) y ≡ mode_allows mode (true_count js y)
selected Xor js y = ap (λ n. nat_eq n 1) (counted js y)
selected Or js y = ap (λ n. nat_le 1 n) (counted js y)

enforced_on : (under : Option ℕ) (p : PropTree) (y : ℕ → Bool) → truth_of p y ≡ true → truth_of (enforced under p) y ≡ true
enforced_on None p y h = h
enforced_on (Some k) p y h = or_right (not (y k)) (truth_of p y) h

enforced_off : (k : ℕ) (p : PropTree) (y : ℕ → Bool) → y k ≡ false → truth_of (enforced (Some k) p) y ≡ true
enforced_off k p y e = or_left (not (y k)) (truth_of p y) (ap not e)

each_on : (k : ℕ) (js : Disjuncts) (y : ℕ → Bool) → y k ≡ true → are_all_true (truths_of (each_implies k js) y) ≡ true
each_on k no_disjuncts y e = refl
each_on k (disjunct head b js) y e =
    and_true (not (y head.indicator) || y k) (are_all_true (truths_of (each_implies k js) y)) (or_right (not (y head.indicator)) (y k) e) (each_on k js y e)

each_off : (k : ℕ) (js : Disjuncts) (y : ℕ → Bool) → are_disjuncts_off js y ≡ true → are_all_true (truths_of (each_implies k js) y) ≡ true
each_off k no_disjuncts y h = refl
each_off k (disjunct head b js) y h =
    let here = first_holds (not (y head.indicator) && is_off b y) (are_disjuncts_off js y) h in
    and_true (not (y head.indicator) || y k) (are_all_true (truths_of (each_implies k js) y))
    (or_left (not (y head.indicator)) (y k) (first_holds (not (y head.indicator)) (is_off b y) here))
    (each_off k js y (second_holds (not (y head.indicator) && is_off b y) (are_disjuncts_off js y) h))

choice_on : (under : Option ℕ) (mode : Mode) (js : Disjuncts) (y : ℕ → Bool) → is_on y under ≡ true → mode_allows mode (true_count js y) ≡ true
    → truth_of (choice under mode js) y ≡ true
choice_on None mode js y e h = selected mode js y ∙ h
choice_on (Some k) mode js y e h =
    and_true (not (y k) || truth_of (selection mode js) y) (are_all_true (truths_of (each_implies k js) y))
    (or_right (not (y k)) (truth_of (selection mode js) y) (selected mode js y ∙ h)) (each_on k js y e)

choice_off : (k : ℕ) (mode : Mode) (js : Disjuncts) (y : ℕ → Bool) → y k ≡ false → are_disjuncts_off js y ≡ true
    → truth_of (choice (Some k) mode js) y ≡ true
choice_off k mode js y e h =
    and_true (not (y k) || truth_of (selection mode js) y) (are_all_true (truths_of (each_implies k js) y))
    (or_left (not (y k)) (truth_of (selection mode js) y) (ap not e)) (each_off k js y h)

props_on : (under : Option ℕ) (qs : List (PropTree × ℕ)) (y : ℕ → Bool) → props_hold qs y ≡ true → meets y (map (λ q. enforced under q.0) qs) ≡ true
props_on under [] y h = refl
props_on under (q ∷ qs) y h =
    and_true (truth_of (enforced under q.0) y) (meets y (map (λ q. enforced under q.0) qs))
    (enforced_on under q.0 y (first_holds (truth_of q.0 y) (props_hold qs y) h)) (props_on under qs y (second_holds (truth_of q.0 y) (props_hold qs y) h))

props_off : (k : ℕ) (qs : List (PropTree × ℕ)) (y : ℕ → Bool) → y k ≡ false → meets y (map (λ q. enforced (Some k) q.0) qs) ≡ true
props_off k [] y e = refl
props_off k (q ∷ qs) y e =
    and_true (truth_of (enforced (Some k) q.0) y) (meets y (map (λ q. enforced (Some k) q.0) qs)) (enforced_off k q.0 y e) (props_off k qs y e)

not_true : (a : Bool) → not a ≡ true → a ≡ false
not_true true h = sym h
not_true false h = refl

-- below a false indicator, where every indicator is false
mutual
  block_off : (b : BlockTree) (k : ℕ) (y : ℕ → Bool) → y k ≡ false → is_off b y ≡ true → meets y (conditions_in (Some k) b) ≡ true
  block_off (block items ds) k y e h =
      meets_both y (map (λ q. enforced (Some k) q.0) items.props) (conditions_of_disjunctions (Some k) ds) (props_off k items.props y e) (disjunctions_off ds k y e h)

  disjunctions_off : (ds : Disjunctions) (k : ℕ) (y : ℕ → Bool) → y k ≡ false → are_disjunctions_off ds y ≡ true → meets y (conditions_of_disjunctions (Some k) ds) ≡ true
  disjunctions_off no_disjunctions k y e h = refl
  disjunctions_off (disjunction head js ds) k y e h =
      let here = first_holds (are_disjuncts_off js y) (are_disjunctions_off ds y) h in
      and_true (truth_of (choice (Some k) head.mode js) y) (meets y (conditions_of_disjuncts js ++ conditions_of_disjunctions (Some k) ds))
      (choice_off k head.mode js y e here)
      (meets_both y (conditions_of_disjuncts js) (conditions_of_disjunctions (Some k) ds) (disjuncts_off js y here)
      (disjunctions_off ds k y e (second_holds (are_disjuncts_off js y) (are_disjunctions_off ds y) h)))

  disjuncts_off : (js : Disjuncts) (y : ℕ → Bool) → are_disjuncts_off js y ≡ true → meets y (conditions_of_disjuncts js) ≡ true
  disjuncts_off no_disjuncts y h = refl
  disjuncts_off (disjunct head b js) y h =
      let here = first_holds (not (y head.indicator) && is_off b y) (are_disjuncts_off js y) h in
      meets_both y (conditions_in (Some head.indicator) b) (conditions_of_disjuncts js)
      (block_off b head.indicator y (not_true (y head.indicator) (first_holds (not (y head.indicator)) (is_off b y) here)) (second_holds (not (y head.indicator)) (is_off b y) here))
      (disjuncts_off js y (second_holds (not (y head.indicator) && is_off b y) (are_disjuncts_off js y) h))

-- of two, the one that the truth chooses
chosen : (on x z : Bool) (Met : Type 0) → (on ≡ true → x ≡ true → Met) → (on ≡ false → z ≡ true → Met) → (if on then x else z) ≡ true → Met
chosen true x z Met f g h = f refl h
chosen false x z Met f g h = g refl h

mutual
  block_on : (b : BlockTree) (under : Option ℕ) (p : PointOf) → is_on p.truths under ≡ true → is_satisfied b p ≡ true → meets p.truths (conditions_in under b) ≡ true
  block_on (block items ds) under p e h =
      let rest = second_holds (rows_hold items.rows p) (props_hold items.props p.truths && are_disjunctions_satisfied ds p) h in
      meets_both p.truths (map (λ q. enforced under q.0) items.props) (conditions_of_disjunctions under ds)
      (props_on under items.props p.truths (first_holds (props_hold items.props p.truths) (are_disjunctions_satisfied ds p) rest))
      (disjunctions_on ds under p e (second_holds (props_hold items.props p.truths) (are_disjunctions_satisfied ds p) rest))

  disjunctions_on : (ds : Disjunctions) (under : Option ℕ) (p : PointOf) → is_on p.truths under ≡ true → are_disjunctions_satisfied ds p ≡ true
      → meets p.truths (conditions_of_disjunctions under ds) ≡ true
  disjunctions_on no_disjunctions under p e h = refl
  disjunctions_on (disjunction head js ds) under p e h =
      let here = first_holds (mode_allows head.mode (true_count js p.truths) && are_disjuncts_satisfied js p) (are_disjunctions_satisfied ds p) h in
      and_true (truth_of (choice under head.mode js) p.truths) (meets p.truths (conditions_of_disjuncts js ++ conditions_of_disjunctions under ds))
      (choice_on under head.mode js p.truths e (first_holds (mode_allows head.mode (true_count js p.truths)) (are_disjuncts_satisfied js p) here))
      (meets_both p.truths (conditions_of_disjuncts js) (conditions_of_disjunctions under ds)
      (disjuncts_on js p (second_holds (mode_allows head.mode (true_count js p.truths)) (are_disjuncts_satisfied js p) here))
      (disjunctions_on ds under p e (second_holds (mode_allows head.mode (true_count js p.truths) && are_disjuncts_satisfied js p) (are_disjunctions_satisfied ds p) h)))

  disjuncts_on : (js : Disjuncts) (p : PointOf) → are_disjuncts_satisfied js p ≡ true → meets p.truths (conditions_of_disjuncts js) ≡ true
  disjuncts_on no_disjuncts p h = refl
  disjuncts_on (disjunct head b js) p h =
      meets_both p.truths (conditions_in (Some head.indicator) b) (conditions_of_disjuncts js)
      (chosen (p.truths head.indicator) (is_satisfied b p) (is_off b p.truths) (meets p.truths (conditions_in (Some head.indicator) b) ≡ true)
      (λ e k. block_on b (Some head.indicator) p e k) (λ e k. block_off b head.indicator p.truths e k)
      (first_holds (if p.truths head.indicator then is_satisfied b p else is_off b p.truths) (are_disjuncts_satisfied js p) h))
      (disjuncts_on js p (second_holds (if p.truths head.indicator then is_satisfied b p else is_off b p.truths) (are_disjuncts_satisfied js p) h))

pub point_meets : (m : ModelTree) (p : PointOf) → is_model_point m p ≡ true → (place : ℕ) → place < item_count_of m → truth_of (condition_of m place) p.truths ≡ true
point_meets m p h place within =
    meets_at p.truths (conditions m) place (atom 0)
    (block_on m.root None p refl (model_point_parts m p h).root) within
