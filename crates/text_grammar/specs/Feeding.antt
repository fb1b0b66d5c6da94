-- Texts that come in pieces: the lines that have come whole, and what is left over.
use Rattle.std.specs.Prelude.{◌≡◌, ℕ, Bool, ◌==◌, List, [], ◌∷◌, ◌++◌, flat_map, if◌then◌else◌}
use Rattle.std.specs.List.{list_any}
use Rattle.text_grammar.specs.Lines.{lines_of}

-- a newline stands in the text
abbrev pub has_newline : List ℕ → Bool
has_newline text = list_any (λ b. b == 10) text

-- what stands up to the last newline
abbrev pub ended_part : List ℕ → List ℕ
ended_part [] = []
ended_part (b ∷ bs) = if has_newline (b ∷ bs) then b ∷ ended_part bs else []

-- what follows the last newline
abbrev pub left_over : List ℕ → List ℕ
left_over [] = []
left_over (b ∷ bs) = if has_newline (b ∷ bs) then left_over bs else b ∷ bs

-- the lines that a newline ends
abbrev pub whole_lines : List ℕ → List (List ℕ)
whole_lines text = lines_of (ended_part text)

-- The lines that pieces give, one piece after the other: those that each ends, with what the pieces before it left over
-- in front, and in the end what is left over.
abbrev pub lines_in_pieces : List ℕ → List (List ℕ) → List (List ℕ)
lines_in_pieces left [] = lines_of left
lines_in_pieces left (piece ∷ pieces) = whole_lines (left ++ piece) ++ lines_in_pieces (left_over (left ++ piece)) pieces

-- a text's lines are those that a newline ends, and what is left over
abbrev pub WholeAndLeft : Type 0
WholeAndLeft = (text : List ℕ) → lines_of text ≡ whole_lines text ++ lines_of (left_over text)

-- a further piece adds the lines that it ends, with what was left over in front
abbrev pub PieceAddsLines : Type 0
PieceAddsLines = (text piece : List ℕ) → whole_lines (text ++ piece) ≡ whole_lines text ++ whole_lines (left_over text ++ piece)

-- what is left over after a further piece depends on what was left over before it, and on no more
abbrev pub PieceLeavesOver : Type 0
PieceLeavesOver = (text piece : List ℕ) → left_over (text ++ piece) ≡ left_over (left_over text ++ piece)

-- however a text is cut into pieces, they give its lines
abbrev pub AnyPieces : Type 0
AnyPieces = (pieces : List (List ℕ)) → lines_in_pieces [] pieces ≡ lines_of (flat_map (λ piece. piece) pieces)
