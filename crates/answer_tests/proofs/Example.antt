-- The tests of rays over a small model with a nested disjunction, with the marks that another program gives.
use Rattle.std.proofs.Common.{◌≡◌, ℕ, ℤ, pos, negsuc, Bool, true, false, List, [], ◌∷◌, None, Some, Ok, Err, Option, refl}
use Rattle.fractions.specs.Fraction.{Fraction}
use Rattle.lp_rows.specs.declared.kinds.Kind.TheVariants as kind
use Rattle.lp_rows.specs.declared.kinds.Rel.TheVariants as rel
use Rattle.lp_rows.specs.declared.kinds.Rel.{Rel}
use Rattle.lp_rows.specs.declared.kinds.Sense.TheVariants.{Max}
use Rattle.lp_rows.specs.Rows.{RowValue}
use Rattle.point_tests.specs.declared.verdicts.Verdict.TheVariants.{Holds, FailsAt}
use Rattle.model_tree.specs.declared.tree.Mode.TheVariants.{Xor, Or}
use Rattle.model_tree.specs.Tree.{BlockTree, block, Disjunctions, no_disjunctions, disjunction, no_disjuncts, disjunct}
use Rattle.model_tree.specs.Values.{ModelTree}
use Rattle.answer_tests.specs.Rays.{verdict_along}

abbrev row : List (ℕ × ℤ) → Rel → ℤ → ℕ → RowValue × ℕ
row ts r b mark = (record { terms = ts; rel = r; right = b }, mark)

abbrev fraction : ℤ → ℤ → Fraction
fraction num den = record { num = num; den = den }

abbrev rows_alone : List (RowValue × ℕ) → Disjunctions → BlockTree
rows_alone rows ds = block (record { rows = rows; props = [] }) ds

abbrev one : ℤ
one = pos 1

abbrev minus : ℤ
minus = negsuc 0

-- max x - 2 n with x at least 0, n whole and at least 1/2; a holds a disjunction of c and d, or else b is true
abbrev example : Option Fraction → Option Fraction → ModelTree
example high_x high_z = record {
  vars = ([], kind.Real, record { low = Some (fraction (pos 0) one); high = high_x }, 2)
      ∷ ([], kind.Int, record { low = Some (fraction one (pos 2)); high = None }, 3)
      ∷ ([], kind.Real, record { low = None; high = high_z }, 4) ∷ [];
  booleans = ([], 9) ∷ ([], 12) ∷ ([], 15) ∷ ([], 20) ∷ [];
  goal = record { sense = Max; terms = (0, one) ∷ (1, negsuc 1) ∷ []; constant = pos 0; scale = one; mark = 5 };
  root = rows_alone (row ((0, one) ∷ (1, one) ∷ []) rel.AtLeast one 6 ∷ row ((0, one) ∷ (2, minus) ∷ []) rel.Equal (pos 2) 7 ∷ [])
      (disjunction (record { mode = Xor; mark = 8 })
      (disjunct (record { indicator = 0; mark = 9 })
      (rows_alone (row ((1, one) ∷ []) rel.AtMost (pos 4) 10 ∷ [])
      (disjunction (record { mode = Or; mark = 11 })
      (disjunct (record { indicator = 1; mark = 12 }) (rows_alone (row ((0, one) ∷ []) rel.Equal one 13 ∷ []) no_disjunctions)
      (disjunct (record { indicator = 2; mark = 15 }) (rows_alone (row ((2, one) ∷ []) rel.AtMost (pos 0) 16 ∷ []) no_disjunctions) no_disjuncts)) no_disjunctions))
      (disjunct (record { indicator = 3; mark = 20 }) (rows_alone (row ((2, one) ∷ []) rel.AtLeast minus 21 ∷ []) no_disjunctions) no_disjuncts)) no_disjunctions);
}

-- with x at most 3 and z at most 7/2, and without
abbrev closed : ModelTree
closed = example (Some (fraction (pos 3) one)) (Some (fraction (pos 7) (pos 2)))

abbrev open_above : ModelTree
open_above = example None None

abbrev only_b : List Bool
only_b = false ∷ false ∷ false ∷ true ∷ []

abbrev a_and_c : List Bool
a_and_c = true ∷ true ∷ false ∷ false ∷ []

abbrev a_and_d : List Bool
a_and_d = true ∷ false ∷ true ∷ false ∷ []

abbrev greatest : ℤ
greatest = pos 170141183460469231731687303715884105727

below_low : verdict_along closed only_b (pos 0 ∷ minus ∷ pos 0 ∷ []) ≡ Ok (FailsAt 3)
below_low = refl

above_high : verdict_along closed only_b (one ∷ pos 0 ∷ one ∷ []) ≡ Ok (FailsAt 2)
above_high = refl

still : verdict_along closed only_b (pos 0 ∷ pos 0 ∷ pos 0 ∷ []) ≡ Ok (FailsAt 5)
still = refl

worse : verdict_along closed only_b (pos 0 ∷ one ∷ pos 0 ∷ []) ≡ Ok (FailsAt 5)
worse = refl

off_equality : verdict_along closed only_b (pos 0 ∷ pos 0 ∷ minus ∷ []) ≡ Ok (FailsAt 7)
off_equality = refl

off_row_of_a : verdict_along closed a_and_c (pos 0 ∷ one ∷ pos 0 ∷ []) ≡ Ok (FailsAt 10)
off_row_of_a = refl

wide_goal : verdict_along closed only_b (pos 0 ∷ greatest ∷ pos 0 ∷ []) ≡ Err (record { mark = 5 })
wide_goal = refl

high_before_wide : verdict_along closed only_b (pos 0 ∷ one ∷ greatest ∷ []) ≡ Ok (FailsAt 4)
high_before_wide = refl

better_on : verdict_along open_above only_b (one ∷ pos 0 ∷ one ∷ []) ≡ Ok Holds
better_on = refl

off_row_of_c : verdict_along open_above a_and_c (one ∷ pos 0 ∷ one ∷ []) ≡ Ok (FailsAt 13)
off_row_of_c = refl

off_row_of_d : verdict_along open_above a_and_d (one ∷ pos 0 ∷ one ∷ []) ≡ Ok (FailsAt 16)
off_row_of_d = refl

wide_row : verdict_along open_above only_b (greatest ∷ one ∷ pos 0 ∷ []) ≡ Err (record { mark = 6 })
wide_row = refl

wide_equality : verdict_along open_above only_b (greatest ∷ pos 0 ∷ minus ∷ []) ≡ Err (record { mark = 7 })
wide_equality = refl
