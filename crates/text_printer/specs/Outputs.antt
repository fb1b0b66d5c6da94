-- What an output holds after a text was put into it in part.
use Rattle.std.specs.Prelude.{◌≡◌, List, ℕ, ◌++◌, Option, Some}

-- A part, from its front, of what was there and of the text behind it: with some rest it is both.
abbrev pub IsCutShort : Option (List ℕ) → Option (List ℕ) → List ℕ → Type 0
IsCutShort old new text = (before : List ℕ) → old ≡ Some before → (part : List ℕ) × (rest : List ℕ) × (new ≡ Some part) × (part ++ rest ≡ before ++ text)
