-- Which rows a round has to visit: those with a variable that moved in the round before.
use Rattle.std.specs.Prelude.{◌≡◌, ℕ, ◌<◌, ℤ, Bool, true, false, ◌||◌, List, [], ◌∷◌, length, get_or, None, slice_index_or}
use Rattle.lp_rows.specs.declared.kinds.Kind.{Kind}
use Rattle.lp_rows.specs.Rows.{RowValue}
use Rattle.bound_propagation.specs.Boxes.{Box, halves}
use Rattle.bound_propagation.specs.Kept.{BoundsValue}
use Rattle.bound_propagation.specs.Propagated.{low_from, high_from, limits_of_halves}

-- a variable moved; past the end of the list each did
abbrev pub has_moved : List Bool → ℕ → Bool
has_moved moved j = slice_index_or moved j true

-- a variable of the terms moved
abbrev pub does_any_move : List Bool → List (ℕ × ℤ) → Bool
does_any_move moved [] = false
does_any_move moved (t ∷ ts) = has_moved moved t.0 || does_any_move moved ts

-- A variable that did not move has the bounds that it had: no limit narrowed them, nor would have if they had not crossed.
abbrev pub HaveStayed : List Bool → BoundsValue → BoundsValue → Type 0
HaveStayed moved old new = (j : ℕ) → has_moved moved j ≡ false → (slice_index_or new.lows j None ≡ slice_index_or old.lows j None) × (slice_index_or new.highs j None ≡ slice_index_or old.highs j None)

-- the row narrows no bound of the box
pub record IsIdle (kinds : ℕ → Kind) (row : RowValue) (box : Box) : Type 0 where
  pub low : (j : ℕ) → low_from (kinds j) j (limits_of_halves (halves row.rel row.terms row.right) box) (box.low j) ≡ box.low j
  pub high : (j : ℕ) → high_from (kinds j) j (limits_of_halves (halves row.rel row.terms row.right) box) (box.high j) ≡ box.high j

-- each row of which no variable moved is idle
abbrev pub AreOthersIdle : (ℕ → Kind) → List (RowValue × ℕ) → List Bool → Box → Type 0
AreOthersIdle kinds rows moved box = (i : ℕ) (row : RowValue × ℕ) → i < length rows → row ≡ get_or rows i row → does_any_move moved row.0.terms ≡ false → IsIdle kinds row.0 box
