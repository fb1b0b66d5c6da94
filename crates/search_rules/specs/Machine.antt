-- A search as a machine over its log: what is legal, what is due, and what the log has come to.
use Rattle.std.specs.Prelude.{◌≡◌, ◌<◌, ℕ, ◌+◌, ℤ, List, [], ◌∷◌, ◌++◌, length, Bool, true, false, ◌&&◌, nat_eq, Option, Some, None, Result, Ok, Err, if◌then◌else◌}
use Rattle.fractions.specs.Fraction.{Fraction}
use Rattle.lp_rows.specs.declared.columns.WideAt.{WideAt}
use Rattle.lp_rows.specs.Points.{PointValue}
use Rattle.exact_simplex.specs.declared.log.Event.{Event}
use Rattle.exact_simplex.specs.declared.log.Event.TheVariants.{OpenRoot, Open, Move}
use Rattle.exact_simplex.specs.declared.moves.Move.TheVariants as move
use Rattle.exact_simplex.specs.declared.moves.Move as moves
use Rattle.exact_simplex.specs.Table.{Table}
use Rattle.exact_simplex.specs.Bland.{bland_move}
use Rattle.exact_simplex.specs.Run.{IsMoved}
use Rattle.proof_tree.specs.declared.path.Split.{Split}
use Rattle.proof_tree.specs.declared.path.Half.{Half}
use Rattle.proof_tree.specs.Tree.{Closure, refuted, bounded, logic_false, ProofTree, leaf, fork}
use Rattle.settling.specs.declared.ending.Ending.{Ending}
use Rattle.settling.specs.declared.ending.Ending.TheVariants as ends
use Rattle.settling.specs.Settled.{Site, with_goal, IsSettled}
use Rattle.settling.specs.Worked.{IsFirstOf}
use Rattle.search_rules.specs.declared.waiting.Waiting.{Waiting}
use Rattle.search_rules.specs.declared.waiting.Best.{Best}

-- what the nodes mean: an item that is false at a path, and what the settling rests on, with the goal or without
pub record Meaning : Type 0 where
  pub dead : List Half → Option ℕ
  pub site : List Half → Bool → Site

-- the nodes made so far: one that has not settled stands by its number
pub data Draft : Type 0 where
  open_node : ℕ → Draft
  leaf_node : Closure → Draft
  fork_node : Split → Draft → Draft → Draft

-- all opened nodes have settled: how many were opened and made, the halves not opened in order of making, the nodes
-- made, and the point found last
pub record Rest : Type 0 where
  pub opened : ℕ
  pub made : ℕ
  pub waiting : List Waiting
  pub draft : Draft
  pub best : Option Best

-- the last node is at work: its half, its number in order of opening, and the rest without its half
pub record Work : Type 0 where
  pub half : Waiting
  pub number : ℕ
  pub rest : Rest

-- all opened nodes have settled; or an exchange is due at the last one's tableau; or its settling is wide; or it
-- settled as endless
pub data Stage : Type 0 where
  resting : Rest → Stage
  working : Work → Table → Stage
  stuck : WideAt → Stage
  ended : PointValue → List Bool → List ℤ → Stage

-- the root, before it is opened
abbrev pub root : Waiting
root = record { number = 0; event = OpenRoot; path = []; kept = None }

-- before the first opening
abbrev pub start : Rest
start = record { opened = 0; made = 1; waiting = root ∷ []; draft = open_node 0; best = None }

-- what takes the place of the node of this number
abbrev pub put : ℕ → Draft → Draft → Draft
put n new (open_node k) = if nat_eq k n then new else open_node k
put n new (leaf_node c) = leaf_node c
put n new (fork_node s a b) = fork_node s (put n new a) (put n new b)

-- the value of the best point
abbrev pub value_of : Option Best → Option Fraction
value_of None = None
value_of (Some best) = Some best.value

-- the ray below a split
abbrev pub below : Option (List ℤ) → Option (List ℤ) → Option (List ℤ)
below kept None = kept
below kept (Some ray) = Some ray

-- a half of the split of the node that was opened as the n-th
abbrev pub child : Waiting → ℕ → Rest → Split → Option (List ℤ) → Bool → Waiting
child h n r s ray second = record { number = if second then r.made + 1 else r.made; event = Open n second; path = record { split = s; second = second } ∷ h.path; kept = below h.kept ray }

-- the node is a leaf
abbrev pub closed : Waiting → Closure → Rest → Rest
closed h c r = record r { draft = put h.number (leaf_node c) r.draft }

-- the node is a leaf, and its point is the best so far
abbrev pub bettered : Waiting → Closure → Best → Rest → Rest
bettered h c best r = record (closed h c r) { best = Some best }

-- the node is split, and its two halves wait
abbrev pub parted : Waiting → ℕ → Split → Option (List ℤ) → Rest → Rest
parted h n s ray r = record {
  opened = r.opened;
  made = r.made + 2;
  waiting = r.waiting ++ child h n r s ray false ∷ child h n r s ray true ∷ [];
  draft = put h.number (fork_node s (open_node r.made) (open_node (r.made + 1))) r.draft;
  best = r.best;
}

-- the node that was opened as the n-th settles
abbrev pub settled : Waiting → ℕ → Rest → Result Ending WideAt → Stage
settled h n r (Ok (ends.LogicFalse item)) = resting (closed h (logic_false item) r)
settled h n r (Ok (ends.Refuted ms)) = resting (closed h (refuted ms) r)
settled h n r (Ok (ends.Bounded scale ms)) = resting (closed h (bounded scale ms) r)
settled h n r (Ok (ends.Better at truths value scale ms)) = resting (bettered h (bounded scale ms) (record { at = at; truths = truths; value = value }) r)
settled h n r (Ok (ends.Split s ray)) = resting (parted h n s ray r)
settled h n r (Ok (ends.Endless at truths ray)) = ended at truths ray
settled h n r (Err place) = stuck place

-- what the settling of a half rests on
abbrev pub site_of : Meaning → Waiting → Site
site_of m h = m.site h.path (with_goal h.kept)

-- the node at work settles at this tableau, which comes to this stage
abbrev pub Settles : Meaning → Work → Table → Stage → Type 0
Settles m w t s = (result : Result Ending WideAt) × (IsSettled (site_of m w.half) t w.half.kept (value_of w.rest.best) result × (s ≡ settled w.half w.number w.rest result))

-- the node at work has come to this tableau, and so to this stage, by what Bland's rule names
abbrev pub Comes : Meaning → Work → Table → Stage → moves.Move → Type 0
Comes m w t s (move.Exchange enter leave) = s ≡ working w t
Comes m w t s move.Optimal = Settles m w t s
Comes m w t s move.Infeasible = Settles m w t s
Comes m w t s (move.Unbounded enter) = Settles m w t s

-- the same, whatever the rule names
abbrev pub Arrives : Meaning → Work → Table → Stage → Type 0
Arrives m w t s = Comes m w t s (bland_move t)

-- a node that is opened settles at once where an item is false; else it comes to its first tableau
abbrev pub Begins : Meaning → Work → Stage → Option ℕ → Type 0
Begins m w s (Some item) = s ≡ settled w.half w.number w.rest (Ok (ends.LogicFalse item))
Begins m w s None = (t : Table) × (IsFirstOf (site_of m w.half).force t × Arrives m w t s)

-- two Booleans are the same
abbrev pub same_bool : Bool → Bool → Bool
same_bool true b = b
same_bool false true = false
same_bool false false = true

-- two openings that are the same
abbrev pub same_opening : Event → Event → Bool
same_opening OpenRoot OpenRoot = true
same_opening OpenRoot (Open q t) = false
same_opening OpenRoot (Move enter leave) = false
same_opening (Open p s) OpenRoot = false
same_opening (Open p s) (Open q t) = nat_eq p q && same_bool s t
same_opening (Open p s) (Move enter leave) = false
same_opening (Move enter leave) e = false

-- the half that the opening names, taken from the others before and after it; its number is counted here
abbrev pub open_at : Rest → Event → List Waiting → List Waiting → Option Work
open_at r e before [] = None
open_at r e before (h ∷ hs) =
    if same_opening e h.event
    then Some (record { half = h; number = r.opened; rest = record r { opened = r.opened + 1; waiting = before ++ hs } })
    else open_at r e (before ++ h ∷ []) hs

-- one event of a legal log: an opening where all nodes have settled, the exchange that is due at a node at work, and
-- no other
abbrev pub IsStep : Meaning → Stage → Event → Stage → Type 0
IsStep m (resting r) e s = (w : Work) × ((open_at r e [] r.waiting ≡ Some w) × Begins m w s (m.dead w.half.path))
IsStep m (working w t) (Move enter leave) s = (u : Table) × (IsMoved t (record { enter = enter; leave = leave }) u × Arrives m w u s)
IsStep m (working w t) OpenRoot s = ⊥
IsStep m (working w t) (Open parent second) s = ⊥
IsStep m (stuck place) e s = ⊥
IsStep m (ended at truths ray) e s = ⊥

-- a legal log leads from the first stage to the last
abbrev pub IsLegal : Meaning → Stage → List Event → Stage → Type 0
IsLegal m s [] t = s ≡ t
IsLegal m s (e ∷ es) t = (u : Stage) × (IsStep m s e u × IsLegal m u es t)

-- a log is legal from the start, and comes to this stage
abbrev pub IsLegalLog : Meaning → List Event → Stage → Type 0
IsLegalLog m log s = IsLegal m (resting start) log s

-- an event is due
abbrev pub IsDueAt : Stage → Type 0
IsDueAt (resting r) = 0 < length r.waiting
IsDueAt (working w t) = Unit {0}
IsDueAt (stuck place) = ⊥
IsDueAt (ended at truths ray) = ⊥

-- nothing is due, and the last node has settled
abbrev pub IsComplete : Stage → Type 0
IsComplete (resting r) = r.waiting ≡ []
IsComplete (working w t) = ⊥
IsComplete (stuck place) = ⊥
IsComplete (ended at truths ray) = Unit {0}

-- the tree of a draft in which all nodes have settled
abbrev pub tree_of : Draft → ProofTree
tree_of (open_node n) = leaf (refuted [])
tree_of (leaf_node c) = leaf c
tree_of (fork_node s a b) = fork s (tree_of a) (tree_of b)
