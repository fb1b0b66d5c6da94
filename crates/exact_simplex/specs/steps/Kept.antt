-- What a tableau keeps beside its rows, so that a move visits few of them and takes no memory.
use Rattle.std.specs.Prelude.{◌≡◌, ◌<◌, ◌+◌, ◌/◌, ℕ, ℤ, Bool, true, List, length}
use Rattle.simplex_rows.specs.Matrix.{IsColumnOf, AreNarrowRows}
use Rattle.simplex_rows.specs.Index.{IsIndexOf}
use Rattle.exact_simplex.specs.Table.{Table, width, entry, IsSound, IsFeasible}

-- how many words an index has for each column
abbrev pub words : Table → ℕ
words t = t.height / 64 + 1

-- what is true of a tableau as it is stored: it is sound, its numbers are narrow, and it has two
-- spare rows of its width, an index of its entries, a column that is kept, if kept names one, and
-- whether a move was made, after which no right side is negative
pub record IsSoundWith (t : Table) (spare written : List ℤ) (index : List ℕ) (column : List ℤ) (kept : ℕ) (started : Bool) : Type 0 where
  pub sound : IsSound t
  pub narrow : AreNarrowRows t.rows
  pub spare_width : length spare ≡ width t
  pub written_width : length written ≡ width t
  pub indexed : IsIndexOf (width t) (t.height + 1) (words t) (entry t) index
  pub column_size : length column ≡ t.height + 1
  pub column_kept : kept < width t → IsColumnOf (t.height + 1) kept (entry t) column
  pub feasible : started ≡ true → IsFeasible t
