-- What is in force at a point of a model holds there, and where it holds and all conditions are true the point is one.
use Rattle.std.proofs.Common.{◌≡◌, ℕ, zero, suc, ◌<◌, Bool, true, false, not, ◌&&◌, ◌||◌, List, [], ◌∷◌, ◌++◌, map, length, Option, None, Some, slice_index_or, refl, ap, sym, ◌∙◌, arith, if◌then◌else◌}
use Rattle.propositions.specs.Tree.{PropTree, atom}
use Rattle.propositions.specs.Truth.{truth_of, truths_of, are_all_true}
use Rattle.model_tree.specs.declared.tree.Mode.{Mode}
use Rattle.model_items.specs.Force.{do_rows_in_force_hold, do_rows_below_hold, do_rows_within_hold, PointMeetsForce, ConditionsMakePoints}
use Rattle.model_items.specs.Items.{enforced, selection, each_implies, choice, conditions_in, conditions_of_disjunctions, conditions_of_disjuncts, conditions}
use Rattle.point_tests.specs.Satisfied.{PointOf, vars_take, rows_hold, props_hold, true_count, mode_allows, is_off, are_disjunctions_off, are_disjuncts_off, is_satisfied, are_disjunctions_satisfied, are_disjuncts_satisfied}
use Rattle.point_tests.proofs.SatisfiedLemmas.{model_point_parts, model_point_of}
use Rattle.model_tree.specs.Tree.{BlockTree, block, Disjunctions, no_disjunctions, disjunction, Disjuncts, no_disjuncts, disjunct}
use Rattle.model_tree.proofs.Bools.{both, first_holds, second_holds, and_true}
use Rattle.model_items.proofs.ItemsLemmas.{meets, is_on, selected}

meets_first : (y : ℕ → Bool) (cs ds : List PropTree) → meets y (cs ++ ds) ≡ true → meets y cs ≡ true
meets_first y [] ds h = refl
meets_first y (c ∷ cs) ds h = and_true (truth_of c y) (meets y cs) (first_holds (truth_of c y) (meets y (cs ++ ds)) h) (meets_first y cs ds (second_holds (truth_of c y) (meets y (cs ++ ds)) h))

meets_second : (y : ℕ → Bool) (cs ds : List PropTree) → meets y (cs ++ ds) ≡ true → meets y ds ≡ true
meets_second y [] ds h = h
meets_second y (c ∷ cs) ds h = meets_second y cs ds (second_holds (truth_of c y) (meets y (cs ++ ds)) h)

meets_all : (y : ℕ → Bool) (cs : List PropTree) (other : PropTree) → ((n : ℕ) → n < length cs → truth_of (slice_index_or cs n other) y ≡ true) → meets y cs ≡ true
meets_all y [] other h = refl
meets_all y (c ∷ cs) other h = and_true (truth_of c y) (meets y cs) (h zero (omega arith)) (meets_all y cs other (λ n k. h (suc n) (omega arith)))

-- what is implied by what is true, and what implies what is false
implied : (a b : Bool) → (not a || b) ≡ true → a ≡ true → b ≡ true
implied true b h e = h
implied false b h e = cc

denied : (a b : Bool) → (not a || b) ≡ true → b ≡ false → a ≡ false
denied true b h e = let x : true ≡ false = sym h ∙ e in cc
denied false b h e = refl

enforced_back : (under : Option ℕ) (p : PropTree) (y : ℕ → Bool) → is_on y under ≡ true → truth_of (enforced under p) y ≡ true → truth_of p y ≡ true
enforced_back None p y e h = h
enforced_back (Some k) p y e h = implied (y k) (truth_of p y) h e

props_back : (under : Option ℕ) (qs : List (PropTree × ℕ)) (y : ℕ → Bool) → is_on y under ≡ true → meets y (map (λ q. enforced under q.0) qs) ≡ true → props_hold qs y ≡ true
props_back under [] y e h = refl
props_back under (q ∷ qs) y e h =
    let rest = meets y (map (λ q. enforced under q.0) qs) in
    and_true (truth_of q.0 y) (props_hold qs y) (enforced_back under q.0 y e (first_holds (truth_of (enforced under q.0) y) rest h)) (props_back under qs y e (second_holds (truth_of (enforced under q.0) y) rest h))

choice_back : (under : Option ℕ) (mode : Mode) (js : Disjuncts) (y : ℕ → Bool) → is_on y under ≡ true → truth_of (choice under mode js) y ≡ true → mode_allows mode (true_count js y) ≡ true
choice_back None mode js y e h = sym (selected mode js y) ∙ h
choice_back (Some k) mode js y e h =
    sym (selected mode js y) ∙ implied (y k) (truth_of (selection mode js) y) (first_holds (not (y k) || truth_of (selection mode js) y) (are_all_true (truths_of (each_implies k js) y)) h) e

-- no indicator is true
abbrev Nones : Disjuncts → (ℕ → Bool) → Type 0
Nones no_disjuncts y = Unit {0}
Nones (disjunct head b js) y = (y head.indicator ≡ false) × Nones js y

nones : (k : ℕ) (js : Disjuncts) (y : ℕ → Bool) → y k ≡ false → are_all_true (truths_of (each_implies k js) y) ≡ true → Nones js y
nones k no_disjuncts y e h = tt
nones k (disjunct head b js) y e h =
    let here = not (y head.indicator) || y k in
    let rest = are_all_true (truths_of (each_implies k js) y) in
    (denied (y head.indicator) (y k) (first_holds here rest h) e, nones k js y e (second_holds here rest h))

choice_none : (k : ℕ) (mode : Mode) (js : Disjuncts) (y : ℕ → Bool) → y k ≡ false → truth_of (choice (Some k) mode js) y ≡ true → Nones js y
choice_none k mode js y e h = nones k js y e (second_holds (not (y k) || truth_of (selection mode js) y) (are_all_true (truths_of (each_implies k js) y)) h)

-- below a false indicator every indicator is false
mutual
  off_back : (b : BlockTree) (k : ℕ) (y : ℕ → Bool) → y k ≡ false → meets y (conditions_in (Some k) b) ≡ true → is_off b y ≡ true
  off_back (block items ds) k y e h = offs_back ds k y e (meets_second y (map (λ q. enforced (Some k) q.0) items.props) (conditions_of_disjunctions (Some k) ds) h)

  offs_back : (ds : Disjunctions) (k : ℕ) (y : ℕ → Bool) → y k ≡ false → meets y (conditions_of_disjunctions (Some k) ds) ≡ true → are_disjunctions_off ds y ≡ true
  offs_back no_disjunctions k y e h = refl
  offs_back (disjunction head js ds) k y e h =
      let rest = second_holds (truth_of (choice (Some k) head.mode js) y) (meets y (conditions_of_disjuncts js ++ conditions_of_disjunctions (Some k) ds)) h in
      and_true (are_disjuncts_off js y) (are_disjunctions_off ds y)
      (disjuncts_off_back js y (choice_none k head.mode js y e (first_holds (truth_of (choice (Some k) head.mode js) y) (meets y (conditions_of_disjuncts js ++ conditions_of_disjunctions (Some k) ds)) h))
      (meets_first y (conditions_of_disjuncts js) (conditions_of_disjunctions (Some k) ds) rest))
      (offs_back ds k y e (meets_second y (conditions_of_disjuncts js) (conditions_of_disjunctions (Some k) ds) rest))

  disjuncts_off_back : (js : Disjuncts) (y : ℕ → Bool) → Nones js y → meets y (conditions_of_disjuncts js) ≡ true → are_disjuncts_off js y ≡ true
  disjuncts_off_back no_disjuncts y n h = refl
  disjuncts_off_back (disjunct head b js) y n h =
      and_true (not (y head.indicator) && is_off b y) (are_disjuncts_off js y)
      (and_true (not (y head.indicator)) (is_off b y) (ap not n.0) (off_back b head.indicator y n.0 (meets_first y (conditions_in (Some head.indicator) b) (conditions_of_disjuncts js) h)))
      (disjuncts_off_back js y n.1 (meets_second y (conditions_in (Some head.indicator) b) (conditions_of_disjuncts js) h))

by_truth : (t x z r : Bool) → (t ≡ true → r ≡ true → x ≡ true) → (t ≡ false → z ≡ true) → (if t then r else true) ≡ true → (if t then x else z) ≡ true
by_truth true x z r f g h = f refl h
by_truth false x z r f g h = g refl

mutual
  on_back : (b : BlockTree) (under : Option ℕ) (p : PointOf) → is_on p.truths under ≡ true → meets p.truths (conditions_in under b) ≡ true → do_rows_in_force_hold b p ≡ true → is_satisfied b p ≡ true
  on_back (block items ds) under p e h r =
      and_true (rows_hold items.rows p) (props_hold items.props p.truths && are_disjunctions_satisfied ds p) (first_holds (rows_hold items.rows p) (do_rows_below_hold ds p) r)
      (and_true (props_hold items.props p.truths) (are_disjunctions_satisfied ds p)
      (props_back under items.props p.truths e (meets_first p.truths (map (λ q. enforced under q.0) items.props) (conditions_of_disjunctions under ds) h))
      (ons_back ds under p e (meets_second p.truths (map (λ q. enforced under q.0) items.props) (conditions_of_disjunctions under ds) h) (second_holds (rows_hold items.rows p) (do_rows_below_hold ds p) r)))

  ons_back : (ds : Disjunctions) (under : Option ℕ) (p : PointOf) → is_on p.truths under ≡ true → meets p.truths (conditions_of_disjunctions under ds) ≡ true → do_rows_below_hold ds p ≡ true → are_disjunctions_satisfied ds p ≡ true
  ons_back no_disjunctions under p e h r = refl
  ons_back (disjunction head js ds) under p e h r =
      let here = truth_of (choice under head.mode js) p.truths in
      let later = meets p.truths (conditions_of_disjuncts js ++ conditions_of_disjunctions under ds) in
      let rest = second_holds here later h in
      and_true (mode_allows head.mode (true_count js p.truths) && are_disjuncts_satisfied js p) (are_disjunctions_satisfied ds p)
      (and_true (mode_allows head.mode (true_count js p.truths)) (are_disjuncts_satisfied js p)
      (choice_back under head.mode js p.truths e (first_holds here later h))
      (disjuncts_back js p (meets_first p.truths (conditions_of_disjuncts js) (conditions_of_disjunctions under ds) rest) (first_holds (do_rows_within_hold js p) (do_rows_below_hold ds p) r)))
      (ons_back ds under p e (meets_second p.truths (conditions_of_disjuncts js) (conditions_of_disjunctions under ds) rest) (second_holds (do_rows_within_hold js p) (do_rows_below_hold ds p) r))

  disjuncts_back : (js : Disjuncts) (p : PointOf) → meets p.truths (conditions_of_disjuncts js) ≡ true → do_rows_within_hold js p ≡ true → are_disjuncts_satisfied js p ≡ true
  disjuncts_back no_disjuncts p h r = refl
  disjuncts_back (disjunct head b js) p h r =
      let inner = meets_first p.truths (conditions_in (Some head.indicator) b) (conditions_of_disjuncts js) h in
      let rows = if p.truths head.indicator then do_rows_in_force_hold b p else true in
      and_true (if p.truths head.indicator then is_satisfied b p else is_off b p.truths) (are_disjuncts_satisfied js p)
      (by_truth (p.truths head.indicator) (is_satisfied b p) (is_off b p.truths) (do_rows_in_force_hold b p)
      (λ e k. on_back b (Some head.indicator) p e inner k) (λ e. off_back b head.indicator p.truths e inner)
      (first_holds rows (do_rows_within_hold js p) r))
      (disjuncts_back js p (meets_second p.truths (conditions_in (Some head.indicator) b) (conditions_of_disjuncts js) h) (second_holds rows (do_rows_within_hold js p) r))

-- what holds at a point of a model
where_on : (t x z r : Bool) → (x ≡ true → r ≡ true) → (if t then x else z) ≡ true → (if t then r else true) ≡ true
where_on true x z r f h = f h
where_on false x z r f h = refl

mutual
  forced_on : (b : BlockTree) (p : PointOf) → is_satisfied b p ≡ true → do_rows_in_force_hold b p ≡ true
  forced_on (block items ds) p h =
      let later = props_hold items.props p.truths && are_disjunctions_satisfied ds p in
      and_true (rows_hold items.rows p) (do_rows_below_hold ds p) (first_holds (rows_hold items.rows p) later h)
      (forced_below ds p (second_holds (props_hold items.props p.truths) (are_disjunctions_satisfied ds p) (second_holds (rows_hold items.rows p) later h)))

  forced_below : (ds : Disjunctions) (p : PointOf) → are_disjunctions_satisfied ds p ≡ true → do_rows_below_hold ds p ≡ true
  forced_below no_disjunctions p h = refl
  forced_below (disjunction head js ds) p h =
      let allowed = mode_allows head.mode (true_count js p.truths) in
      and_true (do_rows_within_hold js p) (do_rows_below_hold ds p)
      (forced_within js p (second_holds allowed (are_disjuncts_satisfied js p) (first_holds (allowed && are_disjuncts_satisfied js p) (are_disjunctions_satisfied ds p) h)))
      (forced_below ds p (second_holds (allowed && are_disjuncts_satisfied js p) (are_disjunctions_satisfied ds p) h))

  forced_within : (js : Disjuncts) (p : PointOf) → are_disjuncts_satisfied js p ≡ true → do_rows_within_hold js p ≡ true
  forced_within no_disjuncts p h = refl
  forced_within (disjunct head b js) p h =
      let here = if p.truths head.indicator then is_satisfied b p else is_off b p.truths in
      and_true (if p.truths head.indicator then do_rows_in_force_hold b p else true) (do_rows_within_hold js p)
      (where_on (p.truths head.indicator) (is_satisfied b p) (is_off b p.truths) (do_rows_in_force_hold b p) (λ k. forced_on b p k) (first_holds here (are_disjuncts_satisfied js p) h))
      (forced_within js p (second_holds here (are_disjuncts_satisfied js p) h))

pub point_meets_force : PointMeetsForce
point_meets_force m p h =
    let parts = model_point_parts m p h in
    and_true (vars_take m.vars 0 p.nums p.over) (do_rows_in_force_hold m.root p) parts.variables (forced_on m.root p parts.root)

pub conditions_make_points : ConditionsMakePoints
conditions_make_points m p f h =
    let force = both (vars_take m.vars 0 p.nums p.over) (do_rows_in_force_hold m.root p) f in
    model_point_of m p (record { variables = force.0; root = on_back m.root None p refl (meets_all p.truths (conditions m) (atom 0) h) force.1 })
