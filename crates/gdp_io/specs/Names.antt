-- The names that files have.
use Rattle.std.specs.Prelude.{◌≡◌, ℕ, Bool, ◌||◌, List}
use Rattle.std.specs.Str.{bytes_eq}

-- this name came to the others
abbrev pub NamesGrow : (List ℕ → Bool) → (List ℕ → Bool) → List ℕ → Type 0
NamesGrow old new name = (other : List ℕ) → new other ≡ (old other || bytes_eq name other)

-- the same names
abbrev pub SameNames : (List ℕ → Bool) → (List ℕ → Bool) → Type 0
SameNames old new = (other : List ℕ) → new other ≡ old other
