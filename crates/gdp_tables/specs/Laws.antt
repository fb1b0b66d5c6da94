-- The laws of the tables: each says what it can, and no more.
use Rattle.std.specs.Prelude.{◌≡◌, ◌↔◌, Bool, not, ◌&&◌, ◌||◌}
use Rattle.gdp_tables.specs.declared.tri.Tri.{Tri}
use Rattle.gdp_tables.specs.Completions.{known, Completes, are_same}
use Rattle.gdp_tables.specs.Readings.{not_of, and_of, or_of, same_of}

-- the table knows the answer exactly where every completion of the two values gives it
abbrev pub IsExact : (Tri → Tri → Tri) → (Bool → Bool → Bool) → Type 0
IsExact table connective =
    (a b : Tri) (answer : Bool)
    → (table a b ≡ known answer) ↔ ((x y : Bool) → Completes x a → Completes y b → connective x y ≡ answer)

-- so it is for `not`
abbrev pub NotIsExact : Type 0
NotIsExact = (a : Tri) (answer : Bool) → (not_of a ≡ known answer) ↔ ((x : Bool) → Completes x a → not x ≡ answer)

-- for `and`, for `or`, and for "both are the same"
abbrev pub AndIsExact : Type 0
AndIsExact = IsExact and_of (λ x y. x && y)

abbrev pub OrIsExact : Type 0
OrIsExact = IsExact or_of (λ x y. x || y)

abbrev pub SameIsExact : Type 0
SameIsExact = IsExact same_of are_same
