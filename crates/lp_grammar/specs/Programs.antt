-- The programs that an LP text can spell.
use Rattle.std.specs.Prelude.{◌≡◌, ℕ, ◌+◌, ◌<◌, ◌≤◌, ℤ, true, false, List, [], ◌∷◌, length}
use Rattle.lp_rows.specs.Holding.{ids_below}
use Rattle.lp_rows.specs.Rows.{RowValue, ascends_from, has_zero, are_storable, is_storable}
use Rattle.milps.specs.Building.{width, rows_height, bounds_height}
use Rattle.milps.specs.Milps.{MilpValue}

-- the most columns and rows that are counted
abbrev pub most_cols : ℕ
most_cols = 4000

abbrev pub most_rows : ℕ
most_rows = 3000

-- terms that are stored over this many columns: ids ascend and are in range, no coefficient is 0, and each may be stored
pub record AreStored (n : ℕ) (terms : List (ℕ × ℤ)) : Type 0 where
  pub ascend : ascends_from 0 terms ≡ true
  pub none : has_zero terms ≡ false
  pub small : are_storable terms ≡ true
  pub below : ids_below n terms ≡ true

-- a row that is stored over this many columns
pub record IsStoredRow (n : ℕ) (r : RowValue) : Type 0 where
  pub terms : AreStored n r.terms
  pub right : is_storable r.right ≡ true

-- rows that are stored over this many columns
abbrev pub AreStoredRows : ℕ → List RowValue → Type 0
AreStoredRows n [] = Unit {0}
AreStoredRows n (r ∷ rs) = IsStoredRow n r × AreStoredRows n rs

-- a program that an LP text can spell: it has a column, its rows and its goal are over its columns, and it is within the
-- limits
pub record IsMilp (m : MilpValue) : Type 0 where
  pub some : 0 < length m.cols
  pub rows : AreStoredRows (length m.cols) m.rows
  pub goal : AreStored (length m.cols) m.goal
  pub cols_within : width m.cols ≤ most_cols
  pub rows_within : rows_height m.rows + bounds_height m.cols ≤ most_rows
