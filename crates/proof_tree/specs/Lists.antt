-- What is known of a list of nodes that is kept as bytes.
use Rattle.std.specs.Prelude.{◌≡◌, ℕ, ◌+◌, ◌≤◌, Bool, true, ◌&&◌, List, ◌++◌, length}
use Rattle.std.specs.List.{list_all}
use Rattle.proof_tree.specs.declared.proof.Node.{Node}
use Rattle.proof_tree.specs.Tree.{closes, is_listed, is_proof}
use Rattle.proof_tree.specs.Packing.{packed_nodes, nodes_of, node_fits}

-- the bytes are the nodes packed, and their numbers fit
pub record ArePacked (bytes : List ℕ) : Type 0 where
  pub packed : packed_nodes (nodes_of bytes) ≡ bytes
  pub fit : list_all node_fits (nodes_of bytes) ≡ true

-- So many nodes are due behind these, if they are the front of a proof; and no more nodes make a proof of any others.
pub record IsNodeList (bytes : List ℕ) (len due : ℕ) (front : Bool) : Type 0 where
  pub nodes : ArePacked bytes
  pub counted : len ≡ length (nodes_of bytes)
  pub room : due ≤ len + 1
  pub tested : (more : List Node) → is_proof (nodes_of bytes ++ more) ≡ (front && (closes due more && list_all is_listed more))
