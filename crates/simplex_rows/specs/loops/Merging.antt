-- How far two rows as lists are merged, and how an entry is put behind the others.
use Rattle.std.specs.Prelude.{◌≡◌, ◌≢◌, ◌<◌, ◌≤◌, ◌-ℤ◌, ◌*ℤ◌, ℕ, ℤ, pos, List, [], ◌∷◌, ◌++◌, length, slice_index_or}
use Rattle.simplex_rows.specs.Sparse.{entry_in, IsSparse}

-- the columns before this place are below `column`, and the others not
pub record IsReached (columns : List ℕ) (place column : ℕ) : Type 0 where
  pub within : place ≤ length columns
  pub before : (k : ℕ) → k < place → slice_index_or columns k 0 < column
  pub after : (k : ℕ) → place ≤ k → k < length columns → column ≤ slice_index_or columns k 0

-- the lists are the step of two rows in the columns below n
pub record IsMerged (n : ℕ) (a b : ℤ) (row pivot : ℕ → ℤ) (columns : List ℕ) (entries : List ℤ) : Type 0 where
  pub sparse : IsSparse n columns entries
  pub each : (j : ℕ) → j < n → entry_in columns entries j ≡ a *ℤ row j -ℤ b *ℤ pivot j

-- the first column from these places on, of two rows, or width where none is left
pub record IsNextColumn (row : List ℕ) (place : ℕ) (pivot : List ℕ) (pivot_place width column : ℕ) : Type 0 where
  pub within : column ≤ width
  pub row_after : (k : ℕ) → place ≤ k → k < length row → column ≤ slice_index_or row k 0
  pub pivot_after : (k : ℕ) → pivot_place ≤ k → k < length pivot → column ≤ slice_index_or pivot k 0
  pub least : (low : ℕ) → low ≤ width
      → ((k : ℕ) → place ≤ k → k < length row → low ≤ slice_index_or row k 0)
      → ((k : ℕ) → pivot_place ≤ k → k < length pivot → low ≤ slice_index_or pivot k 0)
      → low ≤ column

-- an entry other than 0 is added at the end
pub record IsPut (column : ℕ) (value : ℤ) (columns : List ℕ) (entries : List ℤ) (columns_now : List ℕ) (entries_now : List ℤ) : Type 0 where
  pub zero_kept : value ≡ pos 0 → (columns_now ≡ columns) × (entries_now ≡ entries)
  pub put : value ≢ pos 0
      → (columns_now ≡ columns ++ column ∷ []) × (entries_now ≡ entries ++ value ∷ [])

-- the lists are the numbers of a row in the columns below n
pub record IsGathered (n : ℕ) (row : ℕ → ℤ) (columns : List ℕ) (entries : List ℤ) : Type 0 where
  pub sparse : IsSparse n columns entries
  pub each : (j : ℕ) → j < n → entry_in columns entries j ≡ row j
