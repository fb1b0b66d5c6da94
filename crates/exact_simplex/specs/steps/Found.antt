-- A tableau by its parts, and what is found of a move before any ratios are compared.
use Rattle.std.specs.Prelude.{ℕ, ◌+◌, ◌<◌, ℤ, false, List}
use Rattle.exact_simplex.specs.declared.moves.Move.{Move}
use Rattle.exact_simplex.specs.declared.moves.Found.{Found}
use Rattle.exact_simplex.specs.declared.moves.Found.TheVariants.{Named, Enters}
use Rattle.exact_simplex.specs.Table.{Table}
use Rattle.exact_simplex.specs.Bland.{leaving_row, leaving_move}

-- the move that is found: it is named, or the ratios name what leaves
abbrev pub found_move : Table → Found → Move
found_move t (Named move) = move
found_move t (Enters enter) = leaving_move t enter (leaving_row t enter)

-- a column that is found to enter is structural or a slack
abbrev pub IsEntering : Table → Found → Type 0
IsEntering t (Named move) = Unit {0}
IsEntering t (Enters enter) = enter < t.columns + t.height

-- a tableau by its parts, whose artificial has not left; the move does not depend on that
abbrev pub table_of : ℕ → ℕ → List (List ℤ) → List ℕ → Table
table_of columns height rows basis =
    record { columns = columns; height = height; rows = rows; basis = basis; dropped = false }
