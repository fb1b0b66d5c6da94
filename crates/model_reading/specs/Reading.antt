-- What is read at a path of a model before anything is solved.
use Rattle.std.specs.Prelude.{ℕ, zero, suc, Bool, List, length, Option, None, Some, if◌then◌else◌}
use Rattle.std.specs.List.{position}
use Rattle.gdp_tables.specs.declared.tri.Tri.{Tri}
use Rattle.propositions.specs.Reading.{tri_of, is_open}
use Rattle.propositions.specs.Tree.{PropTree}
use Rattle.proof_tree.specs.declared.path.Half.{Half}
use Rattle.model_tree.specs.Values.{ModelTree}
use Rattle.model_items.specs.Items.{conditions}
use Rattle.model_forces.specs.Paths.{tris_at, is_no}

-- the condition is read as false
abbrev pub is_false : (ℕ → Tri) → PropTree → Bool
is_false tris condition = is_no (tri_of condition tris)

-- the first of the model's items whose condition is read as false at the path
abbrev pub first_false : ModelTree → List Half → Option ℕ
first_false m path = position (is_false (tris_at m path)) (conditions m)

-- the least open one of n Booleans from k on
abbrev pub first_open : (ℕ → Tri) → ℕ → ℕ → Option ℕ
first_open tris k zero = None
first_open tris k (suc n) = if is_open (tris k) then Some k else first_open tris (suc k) n

-- the least of the model's Booleans that is open at the path
abbrev pub least_open : ModelTree → List Half → Option ℕ
least_open m path = first_open (tris_at m path) 0 (length m.booleans)
