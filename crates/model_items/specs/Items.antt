-- The items of a model, its propositions and disjunctions, and the condition of each.
use Rattle.std.specs.Prelude.{◌≡◌, ◌<◌, ℕ, true, List, [], ◌∷◌, ◌++◌, length, map, Option, None, Some, slice_index_or}
use Rattle.propositions.specs.Tree.{implies, all_of, exactly, at_least, PropTree, atom, paired, listed, PropTrees, no_props, prop}
use Rattle.propositions.specs.Truth.{truth_of}
use Rattle.model_tree.specs.declared.tree.Mode.{Mode}
use Rattle.model_tree.specs.declared.tree.Mode.TheVariants.{Xor, Or}
use Rattle.point_tests.specs.Satisfied.{PointOf, is_model_point}
use Rattle.model_tree.specs.Tree.{BlockTree, block, Disjunctions, no_disjunctions, disjunction, Disjuncts, no_disjuncts, disjunct}
use Rattle.model_tree.specs.Values.{ModelTree}

-- in the block of an indicator a proposition has to be true only where the indicator is; at the root, in any case
abbrev pub enforced : Option ℕ → PropTree → PropTree
enforced None p = p
enforced (Some y) p = paired implies (atom y) p

-- the indicators of disjuncts, in order
abbrev pub indicators_of : Disjuncts → PropTrees
indicators_of no_disjuncts = no_props
indicators_of (disjunct head b js) = prop (atom head.indicator) (indicators_of js)

-- as many of a disjunction's indicators are true as its mode says
abbrev pub selection : Mode → Disjuncts → PropTree
selection Xor js = listed (exactly 1) (indicators_of js)
selection Or js = listed (at_least 1) (indicators_of js)

-- each of these indicators is true only where this one is
abbrev pub each_implies : ℕ → Disjuncts → PropTrees
each_implies y no_disjuncts = no_props
each_implies y (disjunct head b js) = prop (paired implies (atom head.indicator) (atom y)) (each_implies y js)

-- The condition of a disjunction: its selection at the root, and in the block of an indicator that it holds where the
-- indicator is true, and that each of its own indicators is true only there.
abbrev pub choice : Option ℕ → Mode → Disjuncts → PropTree
choice None mode js = selection mode js
choice (Some y) mode js = listed all_of (prop (paired implies (atom y) (selection mode js)) (each_implies y js))

-- The conditions of the items, in the order of their numbers: a block's propositions first, then each disjunction
-- followed by the items of its disjuncts' blocks.
abbrev mutual
  pub conditions_in : Option ℕ → BlockTree → List PropTree
  conditions_in y (block items ds) = map (λ q. enforced y q.0) items.props ++ conditions_of_disjunctions y ds

  pub conditions_of_disjunctions : Option ℕ → Disjunctions → List PropTree
  conditions_of_disjunctions y no_disjunctions = []
  conditions_of_disjunctions y (disjunction head js ds) =
      choice y head.mode js ∷ (conditions_of_disjuncts js ++ conditions_of_disjunctions y ds)

  pub conditions_of_disjuncts : Disjuncts → List PropTree
  conditions_of_disjuncts no_disjuncts = []
  conditions_of_disjuncts (disjunct head b js) = conditions_in (Some head.indicator) b ++ conditions_of_disjuncts js

-- the conditions of a model's items
abbrev pub conditions : ModelTree → List PropTree
conditions m = conditions_in None m.root

-- how many items a model has
abbrev pub item_count_of : ModelTree → ℕ
item_count_of m = length (conditions m)

-- the condition of the item with this number
abbrev pub condition_of : ModelTree → ℕ → PropTree
condition_of m place = slice_index_or (conditions m) place (atom 0)

-- A point of a model makes the condition of each item true.
abbrev pub PointMeetsConditions : Type 0
PointMeetsConditions = (m : ModelTree) (p : PointOf) → is_model_point m p ≡ true → (place : ℕ) → place < item_count_of m → truth_of (condition_of m place) p.truths ≡ true
