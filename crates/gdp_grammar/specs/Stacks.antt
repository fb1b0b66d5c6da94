-- Owners as a stack finds them: the lines that open what is open.
use Rattle.std.specs.Prelude.{ℕ, zero, suc, Bool, true, false, ◌&&◌, ◌==◌, List, [], ◌∷◌, ◌++◌, drop, Option, None, Some, if◌then◌else◌}
use Rattle.gdp_grammar.specs.Nested.{AreOwned}
use Rattle.gdp_grammar.specs.Owners.{LineKind, RowLine, LogicLine, DisjunctionLine, DisjunctLine, EndLine, OtherLine, Kinds, IsOwner, IsNested}

-- what is open after a line, from the inside out
abbrev pub open_after : LineKind → ℕ → List ℕ → List ℕ
open_after RowLine n lines = lines
open_after LogicLine n lines = lines
open_after DisjunctionLine n lines = n ∷ lines
open_after DisjunctLine n lines = n ∷ lines
open_after EndLine n lines = drop 1 lines
open_after OtherLine n lines = lines

-- the lines before line n that open what is open there, from the inside out
unfoldable pub open_before : Kinds → ℕ → List ℕ
open_before kinds zero = []
open_before kinds (suc n) = open_after (kinds n) n (open_before kinds n)

-- the first of a list, if there is one
abbrev pub first_of : List ℕ → Option ℕ
first_of [] = None
first_of (j ∷ js) = Some j

-- the owner of line n
abbrev pub owner : Kinds → ℕ → Option ℕ
owner kinds n = first_of (open_before kinds n)

-- the owner that is found is the one
abbrev pub OwnerFound : Type 0
OwnerFound = (kinds : Kinds) (n : ℕ) → IsNested kinds n → IsOwner kinds n (owner kinds n)

-- these are one owner
abbrev pub same_owner : Option ℕ → Option ℕ → Bool
same_owner None None = true
same_owner None (Some k) = false
same_owner (Some j) None = false
same_owner (Some j) (Some k) = j == k

-- the line if it passes the test and has this owner
abbrev pub owned_line : Kinds → (LineKind → Bool) → Option ℕ → ℕ → List ℕ
owned_line kinds test o n = if test (kinds n) && same_owner o (owner kinds n) then n ∷ [] else []

-- the lines before line n that pass the test and have this owner, in order
unfoldable pub owned : Kinds → (LineKind → Bool) → Option ℕ → ℕ → List ℕ
owned kinds test o zero = []
owned kinds test o (suc n) = owned kinds test o n ++ owned_line kinds test o n

-- the lines that are found to be owned are those
abbrev pub OwnedFound : Type 0
OwnedFound = (kinds : Kinds) (test : LineKind → Bool) (o : Option ℕ) (n : ℕ) → IsNested kinds n → AreOwned kinds test o n (owned kinds test o n)
