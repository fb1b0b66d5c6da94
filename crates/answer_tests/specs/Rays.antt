-- The tests of a ray at a point with these truths, in the order of the tests of a point.
use Rattle.std.specs.Prelude.{ℕ, ◌+◌, ℤ, pos, neg_ℤ, Bool, true, List, [], ◌∷◌, ◌++◌, map, Option, None, Some, Result, Ok, Err, int_le, int_lt, slice_index_or, if◌then◌else◌, false}
use Rattle.fractions.specs.Fraction.{Fraction}
use Rattle.int_linear.specs.Sums.{at}
use Rattle.int_linear.specs.Terms.{dot}
use Rattle.lp_rows.specs.declared.columns.WideAt.{WideAt}
use Rattle.lp_rows.specs.declared.columns.WideAt.TheVariants.{RaySum}
use Rattle.fractions.specs.declared.wide.Wide.{Wide}
use Rattle.lp_rows.specs.declared.kinds.Rel.{Rel}
use Rattle.lp_rows.specs.declared.kinds.Sense.{Sense}
use Rattle.lp_rows.specs.declared.kinds.Sense.TheVariants.{Min, Max}
use Rattle.lp_rows.specs.Holding.{stands, sum_fits}
use Rattle.lp_rows.specs.Rows.{RowValue}
use Rattle.point_tests.specs.declared.verdicts.Verdict.{Verdict}
use Rattle.point_tests.specs.declared.verdicts.Verdict.TheVariants.{Holds, FailsAt}
use Rattle.point_tests.specs.declared.verdicts.SumWide.{SumWide}
use Rattle.point_tests.specs.Tests.{Test, test_of, sized_test, verdict_of}
use Rattle.model_tree.specs.Tree.{BlockTree, block, Disjunctions, no_disjunctions, disjunction, Disjuncts, no_disjuncts, disjunct}
use Rattle.model_tree.specs.Variables.{VarValue}
use Rattle.model_tree.specs.Values.{GoalValue, ModelTree}
use Rattle.model_tree.specs.View.{DisjunctTree}

-- the number does not lead below a low end, nor above a high one
abbrev pub keeps_low : Option Fraction → ℤ → Bool
keeps_low None number = true
keeps_low (Some f) number = int_le (pos 0) number

abbrev pub keeps_high : Option Fraction → ℤ → Bool
keeps_high None number = true
keeps_high (Some f) number = int_le number (pos 0)

abbrev pub ray_tests_of_var : VarValue → ℤ → List Test
ray_tests_of_var v number = test_of (keeps_low v.2.low number) v.3 ∷ test_of (keeps_high v.2.high number) v.3 ∷ []

-- the tests of the variables, the first of which has the number j
abbrev pub ray_tests_of_vars : List VarValue → ℕ → (ℕ → ℤ) → List Test
ray_tests_of_vars [] j ray = []
ray_tests_of_vars (v ∷ vs) j ray = ray_tests_of_var v (ray j) ++ ray_tests_of_vars vs (j + 1) ray

-- the row's sum along the ray stands in its relation to 0
abbrev pub ray_test_of_row : (ℕ → ℤ) → RowValue × ℕ → Test
ray_test_of_row ray r = sized_test (sum_fits (pos 0) r.0.terms ray) (stands r.0.rel (dot r.0.terms ray) (pos 0)) r.1

-- whether a row's sum stands in its relation to 0, where the sum is not wide
abbrev pub stands_or_wide : Rel → Result ℤ Wide → Result Bool Wide
stands_or_wide rel (Ok sum) = Ok (stands rel sum (pos 0))
stands_or_wide rel (Err wide) = Err wide

-- the rows in force: those of a block, and then those of each true disjunct below
abbrev mutual
  pub ray_tests_of_block : BlockTree → (ℕ → Bool) → (ℕ → ℤ) → List Test
  ray_tests_of_block (block items ds) truths ray = map (ray_test_of_row ray) items.rows ++ ray_tests_of_disjunctions ds truths ray

  pub ray_tests_of_disjunctions : Disjunctions → (ℕ → Bool) → (ℕ → ℤ) → List Test
  ray_tests_of_disjunctions no_disjunctions truths ray = []
  ray_tests_of_disjunctions (disjunction head js ds) truths ray = ray_tests_of_disjuncts js truths ray ++ ray_tests_of_disjunctions ds truths ray

  pub ray_tests_of_disjuncts : Disjuncts → (ℕ → Bool) → (ℕ → ℤ) → List Test
  ray_tests_of_disjuncts no_disjuncts truths ray = []
  ray_tests_of_disjuncts (disjunct head b js) truths ray =
      (if truths head.indicator then ray_tests_of_block b truths ray else []) ++ ray_tests_of_disjuncts js truths ray

-- the tests of one disjunct
abbrev pub ray_tests_of_disjunct : DisjunctTree → (ℕ → Bool) → (ℕ → ℤ) → List Test
ray_tests_of_disjunct j truths ray = if truths j.0.indicator then ray_tests_of_block j.1 truths ray else []

-- the goal's terms, to be minimised
abbrev pub minimised : Sense → List (ℕ × ℤ) → List (ℕ × ℤ)
minimised Min terms = terms
minimised Max terms = map (λ t. (t.0, neg_ℤ t.1)) terms

-- the goal falls along the ray
abbrev pub ray_test_of_goal : GoalValue → (ℕ → ℤ) → Test
ray_test_of_goal g ray = sized_test (sum_fits (pos 0) (minimised g.sense g.terms) ray) (int_lt (dot (minimised g.sense g.terms) ray) (pos 0)) g.mark

-- the tests of a ray: bounds, rows in force, and the goal
abbrev pub ray_tests : ModelTree → (ℕ → Bool) → (ℕ → ℤ) → List Test
ray_tests m truths ray = ray_tests_of_vars m.vars 0 ray ++ (ray_tests_of_block m.root truths ray ++ ray_test_of_goal m.goal ray ∷ [])

-- the mark of the first test that fails, where one does
abbrev pub ray_answer : Result Verdict SumWide → Result (Option ℕ) WideAt
ray_answer (Ok Holds) = Ok None
ray_answer (Ok (FailsAt mark)) = Ok (Some mark)
ray_answer (Err wide) = Err (RaySum wide.mark)

-- the verdict of a ray at a point with these truths
abbrev pub verdict_along : ModelTree → List Bool → List ℤ → Result Verdict SumWide
verdict_along m truths ray = verdict_of (ray_tests m (λ k. slice_index_or truths k false) (at ray))
