-- A list of nodes as bytes: each node is its kind and then its numbers, packed.
use Rattle.std.specs.Prelude.{ℕ, zero, suc, ◌^◌, ℤ, Bool, ◌&&◌, nat_lt, List, [], ◌∷◌, ◌++◌, length}
use Rattle.std.specs.List.{list_all}
use Rattle.fractions.specs.Width.{fits}
use Rattle.packed_numbers.specs.Packed.{packed_natural, packed_number, natural_in, number_in}
use Rattle.proof_tree.specs.declared.path.Split.TheVariants as split
use Rattle.proof_tree.specs.declared.proof.Node.{Node}
use Rattle.proof_tree.specs.declared.proof.Node.TheVariants as node

-- multipliers, each behind its row
abbrev pub packed_pairs : List (ℕ × ℤ) → List ℕ
packed_pairs [] = []
packed_pairs (p ∷ ps) = packed_natural p.0 ++ (packed_number p.1 ++ packed_pairs ps)

-- multipliers behind their count
abbrev pub packed_mults : List (ℕ × ℤ) → List ℕ
packed_mults ms = packed_natural (length ms) ++ packed_pairs ms

-- the kind of a node, and its numbers
abbrev pub packed_node : Node → List ℕ
packed_node (node.Split (split.Int column at)) = packed_natural 0 ++ (packed_natural column ++ packed_number at)
packed_node (node.Split (split.Truth id)) = packed_natural 1 ++ packed_natural id
packed_node (node.Refuted ms) = packed_natural 2 ++ packed_mults ms
packed_node (node.Bounded scale ms) = packed_natural 3 ++ (packed_number scale ++ packed_mults ms)
packed_node (node.LogicFalse item) = packed_natural 4 ++ packed_natural item

-- nodes, one behind the other
abbrev pub packed_nodes : List Node → List ℕ
packed_nodes [] = []
packed_nodes (n ∷ ns) = packed_node n ++ packed_nodes ns

-- the multiplier that bytes begin with, and the bytes behind it
abbrev pub pair_in : List ℕ → (ℕ × ℤ) × List ℕ
pair_in bytes = let row = natural_in bytes in let multiplier = number_in row.1 in ((row.0, multiplier.0), multiplier.1)

-- so many multipliers, and the bytes behind them
abbrev pub pairs_in : ℕ → List ℕ → List (ℕ × ℤ) × List ℕ
pairs_in zero bytes = ([], bytes)
pairs_in (suc more) bytes = let first = pair_in bytes in let others = pairs_in more first.1 in (first.0 ∷ others.0, others.1)

-- multipliers behind their count, and the bytes behind them
abbrev pub mults_in : List ℕ → List (ℕ × ℤ) × List ℕ
mults_in bytes = let count = natural_in bytes in pairs_in count.0 count.1

-- the node of a kind whose numbers bytes begin with, and the bytes behind it
abbrev pub kind_in : ℕ → List ℕ → Node × List ℕ
kind_in zero bytes = let column = natural_in bytes in let at = number_in column.1 in (node.Split (split.Int column.0 at.0), at.1)
kind_in (suc zero) bytes = let id = natural_in bytes in (node.Split (split.Truth id.0), id.1)
kind_in (suc (suc zero)) bytes = let ms = mults_in bytes in (node.Refuted ms.0, ms.1)
kind_in (suc (suc (suc zero))) bytes = let scale = number_in bytes in let ms = mults_in scale.1 in (node.Bounded scale.0 ms.0, ms.1)
kind_in (suc (suc (suc (suc k)))) bytes = let item = natural_in bytes in (node.LogicFalse item.0, item.1)

-- the node that bytes begin with, and the bytes behind it
abbrev pub node_in : List ℕ → Node × List ℕ
node_in bytes = let kind = natural_in bytes in kind_in kind.0 kind.1

-- the nodes that bytes are, of which there are at most so many
abbrev pub nodes_in : ℕ → List ℕ → List Node
nodes_in zero bytes = []
nodes_in (suc most) [] = []
nodes_in (suc most) (b ∷ bs) = let first = node_in (b ∷ bs) in first.0 ∷ nodes_in most first.1

-- the nodes that bytes are
abbrev pub nodes_of : List ℕ → List Node
nodes_of bytes = nodes_in (length bytes) bytes

-- a multiplier and its row fit their types
abbrev pub pair_fits : ℕ × ℤ → Bool
pair_fits p = nat_lt p.0 (2 ^ 32) && fits p.1

-- so does each, and their count fits 64 bits
abbrev pub mults_fit : List (ℕ × ℤ) → Bool
mults_fit ms = nat_lt (length ms) (2 ^ 64) && list_all pair_fits ms

-- each number of a node fits its type
abbrev pub node_fits : Node → Bool
node_fits (node.Split (split.Int column at)) = nat_lt column (2 ^ 32) && fits at
node_fits (node.Split (split.Truth id)) = nat_lt id (2 ^ 32)
node_fits (node.Refuted ms) = mults_fit ms
node_fits (node.Bounded scale ms) = fits scale && mults_fit ms
node_fits (node.LogicFalse item) = nat_lt item (2 ^ 32)
