-- One row of those that an exchange goes over.
use Rattle.std.specs.Prelude.{◌≡◌, ◌≢◌, ℕ, ℤ, List, [], length, slice_index_or}
use Rattle.int_linear.specs.Sums.{at}
use Rattle.simplex_rows.specs.Steps.{IsCleared}
use Rattle.simplex_rows.specs.Width.{IsNarrowRow}

-- one row that is done: cleared, or passed over
pub record IsRowDone (n enter skip : ℕ) (before : List (List ℤ)) (pivot : ℕ → ℤ) (i : ℕ) (now : List ℤ) : Type 0 where
  pub cleared : i ≢ skip → IsCleared n enter (at (slice_index_or before i [])) pivot (at now)
  pub size : length now ≡ n
  pub narrow : IsNarrowRow (at now)
