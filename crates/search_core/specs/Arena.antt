-- The draft that an arena of nodes stands for.
use Rattle.std.specs.Prelude.{◌≡◌, ℕ, zero, suc, ◌+◌, ◌<◌, List, length, get_or, ◌≢◌, slice_get, Some}
use Rattle.proof_tree.specs.declared.path.Split.{Split}
use Rattle.search_core.specs.declared.arena.Slot.{Slot}
use Rattle.search_core.specs.declared.arena.Slot.TheVariants.{Open, Leaf, Fork}
use Rattle.search_core.specs.declared.arena.Leaf as leaves
use Rattle.search_core.specs.declared.arena.Leaf.TheVariants as kind
use Rattle.proof_tree.specs.Tree.{Closure, refuted, bounded, logic_false}
use Rattle.search_rules.specs.Machine.{Draft, open_node, leaf_node, fork_node}

-- what closes a leaf, as the rules see it
abbrev pub closure_of : leaves.Leaf → Closure
closure_of (kind.Refuted ms) = refuted ms
closure_of (kind.Bounded scale ms) = bounded scale ms
closure_of (kind.LogicFalse item) = logic_false item

-- what a slot stands for, by what stands below other nodes
abbrev pub grown : (ℕ → Draft) → ℕ → Slot → Draft
grown at n Open = open_node n
grown at n (Leaf l) = leaf_node (closure_of l)
grown at n (Fork s j) = fork_node s (at j) (at (j + 1))

-- the draft below node n, at most so many levels deep
abbrev pub draft_at : ℕ → List Slot → ℕ → Draft
draft_at zero ss n = open_node n
draft_at (suc f) ss n = grown (draft_at f ss) n (get_or ss n Open)

-- a fork's two nodes come after it
abbrev pub IsArena : List Slot → Type 0
IsArena ss = (n j : ℕ) (s : Split) → get_or ss n Open ≡ Fork s j → (n < j) × (j + 1 < length ss)

-- the draft of the nodes made, from the root
abbrev pub draft_of : List Slot → Draft
draft_of ss = draft_at (length ss) ss 0

-- the open nodes other than n stay open
abbrev pub StaysOpen : ℕ → List Slot → List Slot → Type 0
StaysOpen n old new = (k : ℕ) → k ≢ n → slice_get old k ≡ Some Open → slice_get new k ≡ Some Open
