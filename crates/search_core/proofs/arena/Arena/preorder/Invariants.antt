use Rattle.std.proofs.Common.{◌≡◌, ◌-◌, ◌++◌, length}
use Rattle.std.specs.Prelude.{reverse}
use Rattle.proof_tree.specs.Tree.{preorder}
use Rattle.search_rules.specs.Machine.{tree_of}
use Rattle.search_core.specs.Arena.{draft_of}
use Rattle.search_core.proofs.Arenas.{pending, AreInside}
use Rattle.search_core.proofs.arena.Arena.preorder.Given as goal

abbrev pub invariant-nodes : goal.invariant-nodes
invariant-nodes l = record {
  inside : AreInside l.self.slots.items (reverse l.stack.items);
  rest : l.nodes ++ pending l.self.slots.items (reverse l.stack.items) ≡ preorder (tree_of (draft_of l.self.slots.items));
}

abbrev pub decreases-nodes : goal.decreases-nodes
decreases-nodes l = length (preorder (tree_of (draft_of l.self.slots.items))) - length l.nodes
