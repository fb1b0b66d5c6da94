-- The tests of a point in their order, and the verdict: that of the first that does not pass.
use Rattle.std.specs.Prelude.{◌≡◌, ℕ, ◌+◌, ℤ, ◌*ℤ◌, Bool, true, false, ◌&&◌, List, [], ◌∷◌, ◌++◌, map, Option, None, Some, Result, Ok, Err, if◌then◌else◌}
use Rattle.fractions.specs.Fraction.{Fraction}
use Rattle.fractions.specs.Width.{fits}
use Rattle.lp_rows.specs.Holding.{holds_at, row_fits}
use Rattle.lp_rows.specs.Rows.{RowValue}
use Rattle.propositions.specs.Tree.{PropTree}
use Rattle.propositions.specs.Truth.{truth_of}
use Rattle.point_tests.specs.declared.verdicts.Verdict.{Verdict}
use Rattle.point_tests.specs.declared.verdicts.Verdict.TheVariants.{Holds, FailsAt}
use Rattle.point_tests.specs.declared.verdicts.SumWide.{SumWide}
use Rattle.point_tests.specs.Satisfied.{PointOf, is_above, is_below, is_of_kind, true_count, mode_allows}
use Rattle.model_tree.specs.Tree.{DisjunctHead, BlockTree, block, Disjunctions, no_disjunctions, disjunction, Disjuncts, no_disjuncts, disjunct, below}
use Rattle.model_tree.specs.Variables.{VarValue}
use Rattle.model_tree.specs.Values.{ModelTree}
use Rattle.model_tree.specs.View.{DisjunctTree, DisjunctionTree}

-- what one test says: it passes, or fails or is wide at a mark
pub data Test : Type 0 where
  passes : Test
  fails : ℕ → Test
  is_wide : ℕ → Test

-- the verdict of the first test that does not pass
abbrev pub verdict_of : List Test → Result Verdict SumWide
verdict_of [] = Ok Holds
verdict_of (passes ∷ ts) = verdict_of ts
verdict_of (fails mark ∷ ts) = Ok (FailsAt mark)
verdict_of (is_wide mark ∷ ts) = Err (record { mark = mark })

-- the test passes where this holds, else it fails at the mark
abbrev pub test_of : Bool → ℕ → Test
test_of holds mark = if holds then passes else fails mark

-- the same, but wide where a number that it forms does not fit
abbrev pub sized_test : Bool → Bool → ℕ → Test
sized_test fit holds mark = if fit then test_of holds mark else is_wide mark

-- the numbers q N and p D of an end p / q fit
abbrev pub end_fits : Option Fraction → ℤ → ℤ → Bool
end_fits None number over = true
end_fits (Some f) number over = fits (f.den *ℤ number) && fits (f.num *ℤ over)

-- a variable's tests: its low end, its high end, and whether its number is of its kind
abbrev pub tests_of_var : VarValue → ℤ → ℤ → List Test
tests_of_var v number over =
    sized_test (end_fits v.2.low number over) (is_above v.2.low number over) v.3
    ∷ sized_test (end_fits v.2.high number over) (is_below v.2.high number over) v.3
    ∷ test_of (is_of_kind v.1 number over) v.3 ∷ []

-- the tests of the variables, the first of which has the number j
abbrev pub tests_of_vars : List VarValue → ℕ → (ℕ → ℤ) → ℤ → List Test
tests_of_vars [] j nums over = []
tests_of_vars (v ∷ vs) j nums over = tests_of_var v (nums j) over ++ tests_of_vars vs (j + 1) nums over

-- the test of a row
abbrev pub test_of_row : PointOf → RowValue × ℕ → Test
test_of_row p r = sized_test (row_fits r.0 p.over p.nums) (holds_at r.0 p.over p.nums) r.1

-- the test of a proposition
abbrev pub test_of_prop : (ℕ → Bool) → PropTree × ℕ → Test
test_of_prop truths q = test_of (truth_of q.0 truths) q.1

-- the test that a disjunct below a false one is false too
abbrev pub test_of_off : (ℕ → Bool) → DisjunctHead → Test
test_of_off truths head = if truths head.indicator then fails head.mark else passes

-- A block's tests: its rows, then its propositions, then its disjunctions. Of a disjunction the number of true
-- indicators comes first, then each disjunct in order: the tests of a true one's block, and for a false one that every
-- indicator below is false.
abbrev mutual
  pub tests_of_block : BlockTree → PointOf → List Test
  tests_of_block (block items ds) p = map (test_of_row p) items.rows ++ (map (test_of_prop p.truths) items.props ++ tests_of_disjunctions ds p)

  pub tests_of_disjunctions : Disjunctions → PointOf → List Test
  tests_of_disjunctions no_disjunctions p = []
  tests_of_disjunctions (disjunction head js ds) p =
      test_of (mode_allows head.mode (true_count js p.truths)) head.mark ∷ (tests_of_disjuncts js p ++ tests_of_disjunctions ds p)

  pub tests_of_disjuncts : Disjuncts → PointOf → List Test
  tests_of_disjuncts no_disjuncts p = []
  tests_of_disjuncts (disjunct head b js) p =
      (if p.truths head.indicator then tests_of_block b p else map (test_of_off p.truths) (below b)) ++ tests_of_disjuncts js p

-- the tests of one disjunction and of one disjunct
abbrev pub tests_of_disjunction : DisjunctionTree → PointOf → List Test
tests_of_disjunction d p = test_of (mode_allows d.0.mode (true_count d.1 p.truths)) d.0.mark ∷ tests_of_disjuncts d.1 p

abbrev pub tests_of_disjunct : DisjunctTree → PointOf → List Test
tests_of_disjunct j p = if p.truths j.0.indicator then tests_of_block j.1 p else map (test_of_off p.truths) (below j.1)

-- the tests of a point of the model
abbrev pub tests_of : ModelTree → PointOf → List Test
tests_of m p = tests_of_vars m.vars 0 p.nums p.over ++ tests_of_block m.root p

-- what a verdict tells of a condition: it holds, it does not, or nothing
abbrev pub Tells : Result Verdict SumWide → Bool → Type 0
Tells (Ok Holds) condition = condition ≡ true
Tells (Ok (FailsAt mark)) condition = condition ≡ false
Tells (Err wide) condition = Unit {0}
