-- A proof tree, and its nodes in preorder.
use Rattle.std.specs.Prelude.{◌≡◌, ◌&&◌, ℕ, zero, suc, ℤ, List, [], ◌∷◌, ◌++◌, Bool, true, false, not, Option, Some}
use Rattle.std.specs.List.{list_all}
use Rattle.lp_rows.specs.Rows.{ascends_from, has_zero}
use Rattle.proof_tree.specs.declared.path.Split.{Split}
use Rattle.proof_tree.specs.declared.path.Half.{Half}
use Rattle.proof_tree.specs.declared.proof.Node.{Node}
use Rattle.proof_tree.specs.declared.proof.Node.TheVariants as node
use Rattle.proof_tree.specs.Paths.{first, second, after_leaf, rest_of}

-- what closes a leaf
pub data Closure : Type 0 where
  refuted : List (ℕ × ℤ) → Closure
  bounded : ℤ → List (ℕ × ℤ) → Closure
  logic_false : ℕ → Closure

-- the node that a closure is
abbrev pub leaf_of : Closure → Node
leaf_of (refuted multipliers) = node.Refuted multipliers
leaf_of (bounded scale multipliers) = node.Bounded scale multipliers
leaf_of (logic_false item) = node.LogicFalse item

-- a leaf with what closes it, or a split with the trees of its two halves
pub data ProofTree : Type 0 where
  leaf : Closure → ProofTree
  fork : Split → ProofTree → ProofTree → ProofTree

-- the nodes of a tree, each before those of its halves
abbrev pub preorder : ProofTree → List Node
preorder (leaf c) = leaf_of c ∷ []
preorder (fork s a b) = node.Split s ∷ (preorder a ++ preorder b)

-- each node with its path, in preorder
abbrev pub visits : List Half → ProofTree → List (List Half × Node)
visits p (leaf c) = (p, leaf_of c) ∷ []
visits p (fork s a b) = (p, node.Split s) ∷ (visits (first s ∷ p) a ++ visits (second s ∷ p) b)

-- the list is the preorder of one tree
abbrev pub IsTree : List Node → Type 0
IsTree ns = (t : ProofTree) × (preorder t ≡ ns)

-- how many nodes are open after this one, which was the first of k + 1
abbrev pub opens : Node → ℕ → ℕ
opens (node.Split s) k = suc (suc k)
opens (node.Refuted ms) k = k
opens (node.Bounded scale ms) k = k
opens (node.LogicFalse item) k = k

-- that many trees one after the other, as a count of what is still open
abbrev pub closes : ℕ → List Node → Bool
closes zero [] = true
closes zero (n ∷ ns) = false
closes (suc k) [] = false
closes (suc k) (n ∷ ns) = closes (opens n k) ns

-- multipliers that ascend by row, none of them 0
abbrev pub are_listed : List (ℕ × ℤ) → Bool
are_listed ms = ascends_from 0 ms && not (has_zero ms)

-- the multipliers of a node are listed so
abbrev pub is_listed : Node → Bool
is_listed (node.Split s) = true
is_listed (node.Refuted ms) = are_listed ms
is_listed (node.Bounded scale ms) = are_listed ms
is_listed (node.LogicFalse item) = true

-- the test of a proof
abbrev pub is_proof : List Node → Bool
is_proof ns = closes 1 ns && list_all is_listed ns

-- the list is the preorder of a tree, and its multipliers ascend by row and are not 0
abbrev pub IsProofList : List Node → Type 0
IsProofList ns = IsTree ns × (list_all is_listed ns ≡ true)

-- the path of the node after this one
abbrev pub next_path : List Half → Node → Option (List Half)
next_path p (node.Split s) = Some (first s ∷ p)
next_path p (node.Refuted ms) = after_leaf p
next_path p (node.Bounded scale ms) = after_leaf p
next_path p (node.LogicFalse item) = after_leaf p

-- the walk over the list, which keeps one path
abbrev pub walk : List Half → List Node → List (List Half × Node)
walk p [] = []
walk p (n ∷ ns) = (p, n) ∷ walk (rest_of (next_path p n)) ns
