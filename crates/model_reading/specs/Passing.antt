-- How items are passed one after another, and which halves name a Boolean.
use Rattle.std.specs.Prelude.{ℕ, ◌+◌, Bool, false, ◌||◌, List, [], ◌∷◌, Result, Ok, Err, nat_eq, if◌then◌else◌}
use Rattle.gdp_tables.specs.declared.tri.Tri.{Tri}
use Rattle.propositions.specs.Reading.{is_yes}
use Rattle.propositions.specs.Tree.{PropTree}
use Rattle.proof_tree.specs.declared.path.Half.{Half}
use Rattle.proof_tree.specs.declared.path.Split.{Split}
use Rattle.proof_tree.specs.declared.path.Split.TheVariants.{Int, Truth}
use Rattle.model_tree.specs.Tree.{Disjuncts, no_disjuncts, disjunct}
use Rattle.model_reading.specs.Reading.{is_false}

-- the number after some conditions, the first of which has the number k, or that of the first that is read as false
abbrev pub passed : (ℕ → Tri) → List PropTree → ℕ → Result ℕ ℕ
passed tris [] k = Ok k
passed tris (c ∷ cs) k = if is_false tris c then Err k else passed tris cs (k + 1)

-- one of the disjuncts' indicators is known to be true
abbrev pub has_yes : Disjuncts → (ℕ → Tri) → Bool
has_yes no_disjuncts tris = false
has_yes (disjunct head b js) tris = is_yes (tris head.indicator) || has_yes js tris

-- the split is on this Boolean
abbrev pub is_on : ℕ → Split → Bool
is_on k (Int column bound) = false
is_on k (Truth id) = nat_eq id k

-- the half makes this Boolean known
abbrev pub names : ℕ → Half → Bool
names k half = is_on k half.split
