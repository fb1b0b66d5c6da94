-- The first rows and the first basis, as they are written one by one.
use Rattle.std.specs.Prelude.{◌≡◌, ◌<◌, ◌+◌, ℕ, ℤ, pos, ◌*ℤ◌, List, [], length, slice_index_or}
use Rattle.int_linear.specs.Sums.{at}
use Rattle.int_linear.specs.Terms.{coefficients}
use Rattle.lp_frame.specs.declared.force.AtMost.{AtMost}
use Rattle.exact_simplex.specs.Equations.{row_terms, goal_terms}

-- a row whose numbers are all 0
pub record IsBlank (row : ℕ → ℤ) : Type 0 where
  pub each : (j : ℕ) → row j ≡ pos 0

-- the row has at each column what these terms have, with this sign
pub record IsRowOf (sign : ℤ) (terms : List (ℕ × ℤ)) (row : ℕ → ℤ) : Type 0 where
  pub each : (j : ℕ) → row j ≡ sign *ℤ coefficients terms j

-- the first rows, below k
pub record AreFirstRows (columns height : ℕ) (rows : List AtMost) (k : ℕ) (made : List (List ℤ)) : Type 0 where
  pub size : (i : ℕ) → i < k → length (slice_index_or made i []) ≡ columns + height + 3
  pub row : (i : ℕ) → i < k
      → IsRowOf (pos 1) (row_terms columns height i (slice_index_or rows i (record { terms = []; bound = pos 0 }))) (at (slice_index_or made i []))

-- the first rows, and last the goal row
pub record AreFirst (columns : ℕ) (rows : List AtMost) (goal : List (ℕ × ℤ)) (made : List (List ℤ)) : Type 0 where
  pub count : length made ≡ length rows + 1
  pub each : AreFirstRows columns (length rows) rows (length rows) made
  pub goal_size : length (slice_index_or made (length rows) []) ≡ columns + length rows + 3
  pub goal_row : IsRowOf (pos 1) (goal_terms columns (length rows) goal) (at (slice_index_or made (length rows) []))

-- each row's slack is basic in it, and the scale in the goal row
pub record IsFirstBasis (columns height : ℕ) (basis : List ℕ) : Type 0 where
  pub count : length basis ≡ height + 1
  pub slacks : (k : ℕ) → k < height → slice_index_or basis k 0 ≡ columns + k
  pub scale_last : slice_index_or basis height 0 ≡ columns + height + 2
