-- What a sink holds, and what a write adds to it.
use Rattle.std.specs.Prelude.{◌≡◌, ℕ, ◌≤◌, List, ◌++◌, length, take, Option, Some, None}

-- the bytes written grow by these; whether they are revealed stays as it was
abbrev pub grown : Option (List ℕ) → List ℕ → Option (List ℕ)
grown None bytes = None
grown (Some written) bytes = Some (written ++ bytes)

-- what was written is a part of the text, from its front
abbrev pub WrotePrefix : Option (List ℕ) → Option (List ℕ) → List ℕ → Type 0
WrotePrefix old new text = (n : ℕ) × (n ≤ length text) × (new ≡ grown old (take n text))
