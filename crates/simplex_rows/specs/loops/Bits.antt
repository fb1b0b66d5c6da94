-- The bits that the loops over an index set, add and clear.
use Rattle.std.specs.Prelude.{◌≡◌, ◌<◌, ◌*◌, ℕ, List, slice_index_or}
use Rattle.simplex_rows.specs.Index.{bit_of, KeepsBits}

-- every bit that was set still is, and those of these rows in one column
pub record AreBitsSet (words column : ℕ) (places : List ℕ) (count : ℕ) (before now : List ℕ) : Type 0 where
  pub keeps : KeepsBits words before now
  pub here : (m : ℕ) → m < count → bit_of words now column (slice_index_or places m 0) ≡ 1

-- every bit that was set still is, and those of one row in these columns
pub record IsRowSet (words row : ℕ) (columns : List ℕ) (count : ℕ) (before now : List ℕ) : Type 0 where
  pub keeps : KeepsBits words before now
  pub here : (k : ℕ) → k < count → bit_of words now (slice_index_or columns k 0) row ≡ 1

-- every bit that was set still is, and in one column those of another
pub record IsAdded (words from to : ℕ) (before now : List ℕ) : Type 0 where
  pub keeps : KeepsBits words before now
  pub here : (i : ℕ) → i < words * 64 → bit_of words before from i ≡ 1 → bit_of words now to i ≡ 1

-- every bit that was set still is, and in these columns those of another
pub record AreAdded (words from : ℕ) (columns : List ℕ) (count : ℕ) (before now : List ℕ) : Type 0 where
  pub keeps : KeepsBits words before now
  pub here : (k i : ℕ) → k < count → i < words * 64 → bit_of words before from i ≡ 1
      → bit_of words now (slice_index_or columns k 0) i ≡ 1
