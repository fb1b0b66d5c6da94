-- How items are counted and found while the tree is walked, and what the walk needs of the propositions.
use Rattle.std.specs.Prelude.{ℕ, zero, suc, ◌+◌, Bool, true, ◌&&◌, List, [], ◌∷◌, length, map, Result, Ok, Err}
use Rattle.gdp_tables.specs.declared.tri.Tri.{Tri}
use Rattle.propositions.specs.Reading.{tri_of}
use Rattle.propositions.specs.Tree.{PropTree}
use Rattle.model_tree.specs.Earlier.{name_only_first}
use Rattle.model_tree.specs.Tree.{BlockTree, block, Disjunctions, no_disjunctions, disjunction, Disjuncts, no_disjuncts, disjunct}

-- the reading of each condition where this is known of the Booleans
abbrev pub readings : (ℕ → Tri) → List PropTree → List Tri
readings tris conditions = map (λ c. tri_of c tris) conditions

-- the reading at a place, or how far the place lies past them
abbrev pub reading_at : List Tri → ℕ → Result Tri ℕ
reading_at [] place = Err place
reading_at (t ∷ ts) zero = Ok t
reading_at (t ∷ ts) (suc place) = reading_at ts place

-- each proposition in a block and below it names only the first m Booleans
abbrev mutual
  pub is_block_below : ℕ → BlockTree → Bool
  is_block_below m (block items ds) = name_only_first m items.props && are_disjunctions_below m ds

  pub are_disjunctions_below : ℕ → Disjunctions → Bool
  are_disjunctions_below m no_disjunctions = true
  are_disjunctions_below m (disjunction head js ds) = are_disjuncts_below m js && are_disjunctions_below m ds

  pub are_disjuncts_below : ℕ → Disjuncts → Bool
  are_disjuncts_below m no_disjuncts = true
  are_disjuncts_below m (disjunct head b js) = is_block_below m b && are_disjuncts_below m js

-- how many items there are in a block and below it
abbrev mutual
  pub item_total : BlockTree → ℕ
  item_total (block items ds) = length items.props + item_total_below ds

  pub item_total_below : Disjunctions → ℕ
  item_total_below no_disjunctions = 0
  item_total_below (disjunction head js ds) = suc (item_total_within js) + item_total_below ds

  pub item_total_within : Disjuncts → ℕ
  item_total_within no_disjuncts = 0
  item_total_within (disjunct head b js) = item_total b + item_total_within js
