-- What the halves of a path say of a model's Booleans and variables.
use Rattle.std.specs.Prelude.{◌≡◌, ◌<◌, ℕ, zero, suc, nat_lt, ℤ, pos, ◌+ℤ◌, ◌*ℤ◌, ◌≤ℤ◌, Bool, true, false, List, [], ◌∷◌, length, Option, None, Some, nat_eq, int_le, if◌then◌else◌}
use Rattle.gdp_tables.specs.declared.tri.Tri.{Tri}
use Rattle.gdp_tables.specs.declared.tri.Tri.TheVariants.{No, Yes, Open}
use Rattle.lp_rows.specs.declared.kinds.Kind.{Kind}
use Rattle.lp_rows.specs.declared.kinds.Kind.TheVariants as kind
use Rattle.fractions.specs.Width.{is_narrow}
use Rattle.proof_tree.specs.declared.path.Split.{Split}
use Rattle.proof_tree.specs.declared.path.Split.TheVariants.{Int, Truth}
use Rattle.proof_tree.specs.declared.path.Half.{Half}
use Rattle.point_tests.specs.Satisfied.{PointOf}
use Rattle.model_tree.specs.Variables.{VarValue}
use Rattle.model_tree.specs.Values.{ModelTree}

-- the first half of a split on a Boolean makes it true, the second false
abbrev pub tri_of_half : Bool → Tri
tri_of_half false = Yes
tri_of_half true = No

-- what is known of Boolean k after a half, from what was known before
abbrev pub tri_after : Split → Bool → ℕ → Tri → Tri
tri_after (Int column bound) second k before = before
tri_after (Truth id) second k before = if nat_eq id k then tri_of_half second else before

-- what a path makes known of each Boolean
abbrev pub tris_on : List Half → ℕ → Tri
tris_on [] k = Open
tris_on (h ∷ p) k = tri_after h.split h.second k (tris_on p k)

-- the same from the root on, where this was known before
abbrev pub tris_from : Tri → List Half → ℕ → Tri
tris_from before [] k = before
tris_from before (h ∷ hs) k = tris_from (tri_after h.split h.second k before) hs k

-- what a path makes known of each Boolean of a model; past the last there is none that is true
abbrev pub tris_at : ModelTree → List Half → ℕ → Tri
tris_at m p k = if nat_lt k (length m.booleans) then tris_on p k else No

-- it is known to be false
abbrev pub is_no : Tri → Bool
is_no No = true
is_no Yes = false
is_no Open = false

-- the lesser and the greater of a number and another, where there is one
abbrev pub least_of : ℤ → Option ℤ → ℤ
least_of z None = z
least_of z (Some y) = if int_le z y then z else y

abbrev pub greatest_of : ℤ → Option ℤ → ℤ
greatest_of z None = z
greatest_of z (Some y) = if int_le z y then y else z

-- the tightest high of variable j after a half: the first half of a split at k is at most k
abbrev pub high_after : Split → Bool → ℕ → Option ℤ → Option ℤ
high_after (Int column bound) true j before = before
high_after (Int column bound) false j before = if nat_eq column j then Some (least_of bound before) else before
high_after (Truth id) second j before = before

-- the tightest low of variable j after a half: the second half of a split at k is at least k + 1
abbrev pub low_after : Split → Bool → ℕ → Option ℤ → Option ℤ
low_after (Int column bound) true j before = if nat_eq column j then Some (greatest_of (bound +ℤ pos 1) before) else before
low_after (Int column bound) false j before = before
low_after (Truth id) second j before = before

abbrev pub high_on : List Half → ℕ → Option ℤ
high_on [] j = None
high_on (h ∷ p) j = high_after h.split h.second j (high_on p j)

abbrev pub low_on : List Half → ℕ → Option ℤ
low_on [] j = None
low_on (h ∷ p) j = low_after h.split h.second j (low_on p j)

-- the point is in the half
abbrev pub IsInHalf : Split → Bool → PointOf → Type 0
IsInHalf (Int column bound) false p = p.nums column ≤ℤ (bound *ℤ p.over)
IsInHalf (Int column bound) true p = ((bound +ℤ pos 1) *ℤ p.over) ≤ℤ p.nums column
IsInHalf (Truth id) false p = p.truths id ≡ true
IsInHalf (Truth id) true p = p.truths id ≡ false

-- the point is in each half of the path
abbrev pub IsOnPath : List Half → PointOf → Type 0
IsOnPath [] p = Unit {0}
IsOnPath (h ∷ hs) p = IsInHalf h.split h.second p × IsOnPath hs p

-- the kind of variable j, where there is one
abbrev pub kind_at : List VarValue → ℕ → Option Kind
kind_at [] j = None
kind_at (v ∷ vs) zero = Some v.1
kind_at (v ∷ vs) (suc j) = kind_at vs j

-- the split may stand at a path of the model: it is at a whole number of an integer variable, the least and the greatest
-- number of 128 bits excepted, or on a Boolean that is open there
abbrev pub MayStand : ModelTree → List Half → Split → Type 0
MayStand m p (Int column bound) = (kind_at m.vars column ≡ Some kind.Int) × (is_narrow bound ≡ true) × (is_narrow (bound +ℤ pos 1) ≡ true)
MayStand m p (Truth id) = (id < length m.booleans) × (tris_on p id ≡ Open)

-- each split of the path may stand at its place
abbrev pub IsPathOf : ModelTree → List Half → Type 0
IsPathOf m [] = Unit {0}
IsPathOf m (h ∷ p) = MayStand m p h.split × IsPathOf m p
