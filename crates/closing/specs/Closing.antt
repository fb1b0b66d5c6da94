-- The tests of multipliers, in their order: the first that fails, or in which a number is wide, decides.
use Rattle.std.specs.Prelude.{ℕ, ◌+◌, ℤ, pos, neg_ℤ, ◌*ℤ◌, Bool, true, false, ◌&&◌, List, [], ◌∷◌, ◌++◌, length, nat_lt, int_le, int_lt, Option, Some, None, Result, Ok, Err, if◌then◌else◌}
use Rattle.std.specs.List.{list_all}
use Rattle.std.specs.Ordering.{int_eq}
use Rattle.fractions.specs.Width.{fits}
use Rattle.int_linear.specs.Terms.{coefficients}
use Rattle.lp_rows.specs.declared.columns.Col.{Col}
use Rattle.lp_rows.specs.declared.columns.Sign.{Sign}
use Rattle.lp_rows.specs.declared.columns.Sign.TheVariants.{Free, Nonneg}
use Rattle.lp_rows.specs.declared.columns.WideAt.{WideAt}
use Rattle.lp_rows.specs.declared.columns.WideAt.TheVariants.{Leaf}
use Rattle.lp_frame.specs.declared.force.Force.{Force}
use Rattle.closing.specs.Rows.{entries, sum_along}

-- a column of this sign may have this sum
abbrev pub may_stand : Sign → ℤ → Bool
may_stand Nonneg sum = int_le (pos 0) sum
may_stand Free sum = int_eq sum (pos 0)

-- each multiplier is at least 0, and one of that many rows
abbrev pub are_multipliers : ℕ → List (ℕ × ℤ) → Bool
are_multipliers rows multipliers = list_all (λ m. nat_lt m.0 rows && int_le (pos 0) m.1) multipliers

-- the first test that fails or is wide decides
abbrev pub verdict : List (Result Bool WideAt) → Result Bool WideAt
verdict [] = Ok true
verdict (Ok true ∷ tests) = verdict tests
verdict (Ok false ∷ tests) = Ok false
verdict (Err place ∷ tests) = Err place

-- a test of a sum, which is wide at this column where it is wide at a row
abbrev pub sum_test : (ℤ → Bool) → ℕ → Result ℤ ℕ → Result Bool WideAt
sum_test passes column (Ok sum) = Ok (passes sum)
sum_test passes column (Err row) = Err (Leaf row column)

-- the sum of a column: the goal's product first, whose row is the number of rows
abbrev pub column_sum : Force → ℤ → List (ℕ × ℤ) → ℕ → Result ℤ ℕ
column_sum force scale multipliers column =
    if fits (scale *ℤ coefficients force.goal column)
    then sum_along (entries force.rows (Some column)) (scale *ℤ coefficients force.goal column) multipliers
    else Err (length force.rows)

-- the tests of these columns, numbered from `column` on
abbrev pub column_tests : Force → ℤ → List (ℕ × ℤ) → ℕ → List Col → List (Result Bool WideAt)
column_tests force scale multipliers column [] = []
column_tests force scale multipliers column (c ∷ cs) = sum_test (may_stand c.sign) column (column_sum force scale multipliers column) ∷ column_tests force scale multipliers (column + 1) cs

-- the sum of the bounds
abbrev pub bound_sum : Force → List (ℕ × ℤ) → Result ℤ ℕ
bound_sum force multipliers = sum_along (entries force.rows None) (pos 0) multipliers

-- the sum is negative
abbrev pub is_negative : ℤ → Bool
is_negative sum = int_lt sum (pos 0)

-- the tests of multipliers that are to refute the force
abbrev pub refute_tests : Force → List (ℕ × ℤ) → List (Result Bool WideAt)
refute_tests force multipliers =
    Ok (are_multipliers (length force.rows) multipliers)
    ∷ (column_tests force (pos 0) multipliers 0 force.cols ++ sum_test is_negative (length force.cols) (bound_sum force multipliers) ∷ [])

-- the tests of a scale and multipliers that are to bound the goal from below
abbrev pub bound_tests : Force → ℤ → List (ℕ × ℤ) → List (Result Bool WideAt)
bound_tests force scale multipliers =
    Ok (int_lt (pos 0) scale) ∷ Ok (are_multipliers (length force.rows) multipliers) ∷ column_tests force scale multipliers 0 force.cols

-- minus the sum of the bounds
abbrev pub negated : Force → Result ℤ ℕ → Result ℤ WideAt
negated force (Ok sum) = if fits (neg_ℤ sum) then Ok (neg_ℤ sum) else Err (Leaf (length force.rows) (length force.cols))
negated force (Err row) = Err (Leaf row (length force.cols))

-- the bound where the tests pass
abbrev pub bound_after : Result Bool WideAt → Result ℤ WideAt → Result (Option ℤ) WideAt
bound_after (Ok true) (Ok bound) = Ok (Some bound)
bound_after (Ok true) (Err place) = Err place
bound_after (Ok false) bound = Ok None
bound_after (Err place) bound = Err place

-- the numerator over the scale of the bound on the goal, None where the multipliers bound nothing
abbrev pub bound_of : Force → ℤ → List (ℕ × ℤ) → Result (Option ℤ) WideAt
bound_of force scale multipliers = bound_after (verdict (bound_tests force scale multipliers)) (negated force (bound_sum force multipliers))
