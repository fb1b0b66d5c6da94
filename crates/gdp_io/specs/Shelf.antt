-- What a shelf holds, and what a read of it gives.
use Rattle.std.specs.Prelude.{◌≡◌, ℕ, ◌+◌, ◌<◌, ◌≤◌, List, [], ◌∷◌, ◌++◌, length, take, drop, Option, Some}

-- the contents behind each name, where they are revealed
abbrev pub Contents : Type 0
Contents = List ℕ → Option (List ℕ)

-- whether the place is this offset in the contents of this name; where it is hidden, no name and offset is
abbrev pub Places : Type 1
Places = List ℕ → ℕ → Type 0

-- the same contents behind each name, revealed or not
abbrev pub SameContents : Contents → Contents → Type 0
SameContents old new = (name : List ℕ) → new name ≡ old name

-- the same names are open
abbrev pub SameOpen : (List ℕ → Type 0) → (List ℕ → Type 0) → Type 0
SameOpen old new = (name : List ℕ) → (old name → new name) × (new name → old name)

-- These bytes are the next ones from the place on: at least one of what is left, and none only at the end.
pub record Gives (contents : List ℕ) (at : ℕ) (bytes : List ℕ) : Type 0 where
  pub next : drop at contents ≡ bytes ++ drop (at + length bytes) contents
  pub end : length bytes ≡ 0 → length contents ≤ at

-- Where the contents behind the name are revealed, the place is its front.
abbrev pub Begins : Contents → Places → List ℕ → Type 0
Begins contents is_at name = (all : List ℕ) → contents name ≡ Some all → is_at name 0

-- A place that is revealed keeps its name and moves past the bytes, which are those from the place on in the contents.
abbrev pub Reads : Contents → Places → Places → List ℕ → Type 0
Reads contents was_at is_at bytes = (name : List ℕ) (at : ℕ) → was_at name at →
    is_at name (at + length bytes) × ((all : List ℕ) → contents name ≡ Some all → Gives all at bytes)

-- Where the contents behind the name are revealed, they are this text.
abbrev pub IsBehind : Contents → List ℕ → List ℕ → Type 0
IsBehind contents name text = (all : List ℕ) → contents name ≡ Some all → text ≡ all

-- Where the contents behind the name are revealed, they pass the limit, and just one byte past it was taken.
abbrev pub IsPast : Contents → Places → List ℕ → ℕ → Type 0
IsPast contents is_at name limit = (all : List ℕ) → contents name ≡ Some all → (limit < length all) × is_at name (limit + 1)

-- whether these are the names that were opened so far, in order; where they are hidden, no list is
abbrev pub Openings : Type 1
Openings = List (List ℕ) → Type 0

-- Where the names that were opened are revealed, the same ones are.
abbrev pub OpensNone : Openings → Openings → Type 0
OpensNone was_opened is_opened = (names : List (List ℕ)) → was_opened names → is_opened names

-- Where the names that were opened are revealed, this one came to them.
abbrev pub OpensOne : Openings → Openings → List ℕ → Type 0
OpensOne was_opened is_opened name = (names : List (List ℕ)) → was_opened names → is_opened (names ++ name ∷ [])

-- Where the names that were opened are revealed, some of these came to them: the first ones, each once, in order.
abbrev pub OpensFirst : Openings → Openings → List (List ℕ) → Type 0
OpensFirst was_opened is_opened these = (names : List (List ℕ)) → was_opened names →
    (n : ℕ) × (n ≤ length these) × is_opened (names ++ take n these)
