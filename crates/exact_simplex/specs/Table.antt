-- The tableau as data. Its columns are, in this order: the structural ones, a slack for each row,
-- the artificial, the right side and the goal's scale. Its rows are one for each row of the
-- standard form, and last the goal row.
use Rattle.std.specs.Prelude.{◌≡◌, ◌<◌, ◌≤◌, ◌+◌, ◌==◌, ℕ, ℤ, pos, negsuc, ◌<ℤ◌, ◌≤ℤ◌, Bool, List, length, slice_index_or, int_lt, if◌then◌else◌}
use Rattle.int_linear.specs.Sums.{matrix}
use Rattle.simplex_rows.specs.Dropped.{all_without}
use Rattle.simplex_rows.specs.Matrix.{IsRectangle}
use Rattle.simplex_rows.specs.Tableau.{IsCanonical, IsTableau}

-- columns is the number of structural columns, height that of the rows without the goal row; basis
-- names the basic column of each row, the goal row's being the scale; dropped says that the
-- artificial has left
pub record Table : Type 0 where
  pub columns : ℕ
  pub height : ℕ
  pub rows : List (List ℤ)
  pub basis : List ℕ
  pub dropped : Bool

-- the slack column of row k
abbrev pub slack : Table → ℕ → ℕ
slack t k = t.columns + k

abbrev pub artificial : Table → ℕ
artificial t = t.columns + t.height

abbrev pub right : Table → ℕ
right t = t.columns + t.height + 1

abbrev pub scale : Table → ℕ
scale t = t.columns + t.height + 2

abbrev pub width : Table → ℕ
width t = t.columns + t.height + 3

-- the number in this row and column
abbrev pub entry : Table → ℕ → ℕ → ℤ
entry t = matrix t.rows

abbrev pub right_side : Table → ℕ → ℤ
right_side t i = entry t i (right t)

-- the basic column of a row
abbrev pub basic : Table → ℕ → ℕ
basic t i = slice_index_or t.basis i 0

-- an equation's own column: a row's slack, the goal row's scale
abbrev pub unit : Table → ℕ → ℕ
unit t k = if k == t.height then scale t else slack t k

-- the rows as they are, or without a column that drops out
abbrev pub kept : Bool → ℕ → (ℕ → ℕ → ℤ) → ℕ → ℕ → ℤ
kept drops column rows = if drops then all_without column rows else rows

-- the equations, of which an artificial that has left is no column any more
abbrev pub in_force : Table → (ℕ → ℕ → ℤ) → ℕ → ℕ → ℤ
in_force t equation = kept t.dropped (artificial t) equation

-- t is the tableau of its basis for these equations
abbrev pub IsTableauFor : (ℕ → ℕ → ℤ) → Table → Type 0
IsTableauFor equation t =
    IsTableau (width t) (t.height + 1) (in_force t equation) (unit t) (basic t) (entry t)

-- Before the first move a row's entry in the artificial's column is -1 where its right side is
-- negative, else 0.
pub record IsFresh (t : Table) : Type 0 where
  pub each : (i : ℕ) → i < t.height
      → entry t i (artificial t) ≡ (if int_lt (right_side t i) (pos 0) then negsuc 0 else pos 0)

-- what is true of every tableau, whatever its equations: its size, that it is canonical, and that a
-- right side is negative only before the first move
pub record IsSound (t : Table) : Type 0 where
  pub columns_bound : t.columns ≤ 4000
  pub height_bound : t.height ≤ 4000
  pub row_count : length t.rows ≡ t.height + 1
  pub basis_count : length t.basis ≡ t.height + 1
  pub shape : IsRectangle (width t) t.rows
  pub canonical : IsCanonical (width t) (t.height + 1) (basic t) (entry t)
  pub goal : basic t t.height ≡ scale t
  pub real : (i : ℕ) → i < t.height → basic t i < right t
  pub start : (k : ℕ) → k < t.height → right_side t k <ℤ pos 0 → IsFresh t

-- no right side is negative
pub record IsFeasible (t : Table) : Type 0 where
  pub each : (i : ℕ) → i < t.height → pos 0 ≤ℤ right_side t i
