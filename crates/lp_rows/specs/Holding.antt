-- Whether a row holds at a point, and, apart from it, whether the numbers on the way fit 128 bits.
use Rattle.std.specs.Prelude.{ℕ, ℤ, pos, ◌+ℤ◌, ◌*ℤ◌, Bool, true, ◌&&◌, List, [], ◌∷◌, Result, Ok, Err, if◌then◌else◌, nat_lt, int_le}
use Rattle.std.specs.List.{list_all}
use Rattle.fractions.specs.declared.wide.Wide.{Wide}
use Rattle.fractions.specs.Width.{fits, step_fits, wide}
use Rattle.int_linear.specs.Sums.{at}
use Rattle.int_linear.specs.Terms.{dot}
use Rattle.lp_rows.specs.declared.kinds.Rel.{Rel}
use Rattle.lp_rows.specs.declared.kinds.Rel.TheVariants.{AtMost, AtLeast, Equal}
use Rattle.lp_rows.specs.Points.{PointValue}
use Rattle.lp_rows.specs.Rows.{RowValue}

-- x stands in the relation to y
abbrev pub stands : Rel → ℤ → ℤ → Bool
stands AtMost x y = int_le x y
stands AtLeast x y = int_le y x
stands Equal x y = int_le x y && int_le y x

-- The row holds at these numerators over this denominator: the sum of its terms stands in its relation to its
-- right side times the denominator.
abbrev pub holds_at : RowValue → ℤ → (ℕ → ℤ) → Bool
holds_at row over numbers = stands row.rel (dot row.terms numbers) (row.right *ℤ over)

-- each term names one of the first n places
abbrev pub ids_below : {A : Type 0} → ℕ → List (ℕ × A) → Bool
ids_below n ts = list_all (λ t. nat_lt t.0 n) ts

-- no product is wide, and no partial sum where they are added to `sum` in order
abbrev pub sum_fits : ℤ → List (ℕ × ℤ) → (ℕ → ℤ) → Bool
sum_fits sum [] numbers = true
sum_fits sum (t ∷ ts) numbers = step_fits sum t.1 (numbers t.0) && sum_fits (sum +ℤ t.1 *ℤ numbers t.0) ts numbers

-- the sum of the terms, or `Wide` where a number on the way is
abbrev pub sum_or_wide : List (ℕ × ℤ) → (ℕ → ℤ) → Result ℤ Wide
sum_or_wide terms numbers = if sum_fits (pos 0) terms numbers then Ok (dot terms numbers) else Err wide

-- no number that the test of the row forms is wide
abbrev pub row_fits : RowValue → ℤ → (ℕ → ℤ) → Bool
row_fits row over numbers = sum_fits (pos 0) row.terms numbers && fits (row.right *ℤ over)

-- whether the row holds at the point, or `Wide` where a number on the way is
abbrev pub row_test : RowValue → PointValue → Result Bool Wide
row_test row point =
    if row_fits row point.over (at point.nums) then Ok (holds_at row point.over (at point.nums)) else Err wide
