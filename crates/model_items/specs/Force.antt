-- Which rows are in force at a point: those of the root, and of each block whose indicators are true.
use Rattle.std.specs.Prelude.{◌≡◌, ◌<◌, ℕ, Bool, true, ◌&&◌, if◌then◌else◌}
use Rattle.propositions.specs.Truth.{truth_of}
use Rattle.model_items.specs.Items.{item_count_of, condition_of}
use Rattle.point_tests.specs.Satisfied.{PointOf, vars_take, rows_hold, is_model_point}
use Rattle.model_tree.specs.Tree.{BlockTree, block, Disjunctions, no_disjunctions, disjunction, Disjuncts, no_disjuncts, disjunct}
use Rattle.model_tree.specs.Values.{ModelTree}

-- a block's rows hold, and so below it do those of each block whose indicator is true
abbrev mutual
  pub do_rows_in_force_hold : BlockTree → PointOf → Bool
  do_rows_in_force_hold (block items ds) p = rows_hold items.rows p && do_rows_below_hold ds p

  pub do_rows_below_hold : Disjunctions → PointOf → Bool
  do_rows_below_hold no_disjunctions p = true
  do_rows_below_hold (disjunction head js ds) p = do_rows_within_hold js p && do_rows_below_hold ds p

  pub do_rows_within_hold : Disjuncts → PointOf → Bool
  do_rows_within_hold no_disjuncts p = true
  do_rows_within_hold (disjunct head b js) p =
      (if p.truths head.indicator then do_rows_in_force_hold b p else true) && do_rows_within_hold js p

-- what is in force holds at the point: each variable takes its number, and the rows in force hold
abbrev pub meets_force : ModelTree → PointOf → Bool
meets_force m p = vars_take m.vars 0 p.nums p.over && do_rows_in_force_hold m.root p

-- At a point of a model what is in force holds.
abbrev pub PointMeetsForce : Type 0
PointMeetsForce = (m : ModelTree) (p : PointOf) → is_model_point m p ≡ true → meets_force m p ≡ true

-- A point at which what is in force holds and each item's condition is true is one of the model's.
abbrev pub ConditionsMakePoints : Type 0
ConditionsMakePoints = (m : ModelTree) (p : PointOf) → meets_force m p ≡ true →
    ((place : ℕ) → place < item_count_of m → truth_of (condition_of m place) p.truths ≡ true) → is_model_point m p ≡ true
