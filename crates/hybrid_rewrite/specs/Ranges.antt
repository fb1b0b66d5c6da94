-- Guards that name one of the first Booleans.
use Rattle.std.specs.Prelude.{ℕ, ◌^◌, Bool, true, ◌&&◌, List, [], ◌∷◌, nat_lt, nat_le}
use Rattle.lp_rows.specs.declared.kinds.Rel.{Rel}
use Rattle.lp_rows.specs.declared.kinds.Rel.TheVariants.{AtLeast, Equal}
use Rattle.model_tree.specs.declared.tree.Mode.{Mode}
use Rattle.model_tree.specs.declared.tree.Mode.TheVariants.{Xor, Or}
use Rattle.propositions.specs.Sizes.{greatest_number_of}
use Rattle.propositions.specs.Tree.{PropTree}
use Rattle.propositions.specs.Truth.{are_ids_below}
use Rattle.emission.specs.Items.{Guard, always, where_true}

-- the guard is always on, or one of the first n Booleans
abbrev pub is_guard_below : ℕ → Guard → Bool
is_guard_below n always = true
is_guard_below n (where_true k) = nat_lt k n

-- the relation of the sum of the indicators to what their mode wants
abbrev pub rel_by : Mode → Rel
rel_by Xor = Equal
rel_by Or = AtLeast

-- the propositions name some of the first 2^31 Booleans, and their numbers are at most 1,000
abbrev pub is_prop_small : PropTree → Bool
is_prop_small p = are_ids_below (2 ^ 31) p && nat_le (greatest_number_of p) 1000

abbrev pub are_props_small : List (PropTree × ℕ) → Bool
are_props_small [] = true
are_props_small (q ∷ qs) = is_prop_small q.0 && are_props_small qs
