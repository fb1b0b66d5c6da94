-- Paths, written from the node up to the root.
use Rattle.std.specs.Prelude.{◌≡◌, List, [], ◌∷◌, true, false, Option, Some, None, if◌then◌else◌}
use Rattle.proof_tree.specs.declared.path.Split.{Split}
use Rattle.proof_tree.specs.declared.path.Half.{Half}

-- the first half of a split
abbrev pub first : Split → Half
first s = record { split = s; second = false }

-- the second half of a split
abbrev pub second : Split → Half
second s = record { split = s; second = true }

-- the path of the node that follows a leaf in preorder: the lowest first half gives way to its second
abbrev pub after_leaf : List Half → Option (List Half)
after_leaf [] = None
after_leaf (h ∷ hs) = if h.second then after_leaf hs else Some (second h.split ∷ hs)

-- the last half is taken away, if there is one
abbrev pub popped : List Half → Option Half → List Half → Type 0
popped old None new = (old ≡ []) × (new ≡ [])
popped old (Some h) new = old ≡ h ∷ new

-- the path, or the root's
abbrev pub rest_of : Option (List Half) → List Half
rest_of None = []
rest_of (Some p) = p

-- the half next to the node, if there is one
abbrev pub first_of : List Half → Option Half
first_of [] = None
first_of (h ∷ hs) = Some h
