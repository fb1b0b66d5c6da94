-- What a search's log shows, in the words of the problem.
use Rattle.std.specs.Prelude.{◌≡◌, ◌⊎◌, ℕ, ℤ, List, [], ◌∷◌, Bool, Option, Some, None, Ok}
use Rattle.fractions.specs.Fraction.{Fraction}
use Rattle.lp_rows.specs.Points.{PointValue}
use Rattle.lp_frame.specs.declared.force.Force.{Force}
use Rattle.lp_frame.specs.Standard.{standard_of}
use Rattle.exact_simplex.specs.Table.{Table, IsSound}
use Rattle.exact_simplex.specs.Equations.{IsTableauOf}
use Rattle.proof_tree.specs.declared.path.Split.{Split}
use Rattle.proof_tree.specs.declared.path.Half.{Half}
use Rattle.proof_tree.specs.Paths.{first, second}
use Rattle.proof_tree.specs.declared.proof.Node.{Node}
use Rattle.proof_tree.specs.Tree.{Closure, refuted, bounded, logic_false, ProofTree, leaf, fork, preorder}
use Rattle.settling.specs.declared.ending.Ending.{Ending}
use Rattle.settling.specs.declared.ending.Ending.TheVariants as ends
use Rattle.settling.specs.Settled.{with_goal, IsSettled}
use Rattle.search_rules.specs.declared.waiting.Best.{Best}
use Rattle.search_rules.specs.Machine.{Meaning, Stage, resting, working, stuck, ended, value_of, below, tree_of}

-- a point with its truths
pub record Candidate : Type 0 where
  pub at : PointValue
  pub truths : List Bool

-- a point with these truths
abbrev pub found_at : PointValue → List Bool → Candidate
found_at at truths = record { at = at; truths = truths }

-- the words in which a problem speaks of its nodes
pub record Words : Type 1 where
  pub holds : List Half → Candidate → Type 0  -- a point of the problem, on a path
  pub has_value : Candidate → Fraction → Type 0  -- the goal there is this value
  pub at_least : Fraction → Candidate → Type 0  -- the goal there is at least this value
  pub less : Fraction → Fraction → Type 0  -- a lesser value
  pub proper : Fraction → Type 0  -- a value of a positive denominator
  pub allows : List Half → Split → Type 0  -- a split that may stand at a path
  pub closes : List Half → Closure → Option Fraction → Type 0  -- a leaf closes its node against the best value
  pub ready : List Half → Option (List ℤ) → Type 0  -- a path of allowed splits, and a ray that may be kept there
  pub endless : Candidate → List ℤ → Type 0  -- a point and a ray along which all is a point, each better

-- the value is at least the best one; without a best one there is none
abbrev pub AtLeast : Words → Option Fraction → Candidate → Type 0
AtLeast w None x = ⊥
AtLeast w (Some value) x = w.at_least value x

-- the value is less than the best one, if there is one
abbrev pub IsLess : Words → Fraction → Option Fraction → Type 0
IsLess w value None = Unit {0}
IsLess w value (Some best) = w.less value best

-- the best value, if there is one, has a positive denominator
abbrev pub IsProper : Words → Option Fraction → Type 0
IsProper w None = Unit {0}
IsProper w (Some value) = w.proper value

-- a tableau that a run of the force's standard form comes to
pub record IsReached (force : Force) (t : Table) : Type 0 where
  pub sound : IsSound t
  pub form : IsTableauOf (standard_of force) t

-- a node at this path settles so
pub data Settling (m : Meaning) (p : List Half) (kept : Option (List ℤ)) (best : Option Fraction) (ending : Ending) : Type 0 where
  by_item : (item : ℕ) → m.dead p ≡ Some item → ending ≡ ends.LogicFalse item → Settling m p kept best ending
  by_tableau : (t : Table) → m.dead p ≡ None → IsReached (m.site p (with_goal kept)).force t → IsSettled (m.site p (with_goal kept)) t kept best (Ok ending) → Settling m p kept best ending

-- a leaf of these closes the node
abbrev pub Closes : Words → List Half → Option Fraction → Closure → Type 0
Closes w p best c = w.closes p c best

-- the point found is on the path and better than the best so far, and its leaf closes the node
pub record IsBetter (w : Words) (p : List Half) (best : Option Fraction) (at : PointValue) (truths : List Bool) (value : Fraction) (scale : ℤ) (ms : List (ℕ × ℤ)) : Type 0 where
  pub holds : w.holds p (found_at at truths)
  pub has_value : w.has_value (found_at at truths) value
  pub less : IsLess w value best
  pub closes : w.closes p (bounded scale ms) (Some value)

-- the split may stand at the path, and both halves are ready
pub record IsParted (w : Words) (p : List Half) (kept : Option (List ℤ)) (s : Split) (ray : Option (List ℤ)) : Type 0 where
  pub allowed : w.allows p s
  pub first_ready : w.ready (first s ∷ p) (below kept ray)
  pub second_ready : w.ready (second s ∷ p) (below kept ray)

-- what an ending promises
abbrev pub IsTrueEnding : Words → List Half → Option (List ℤ) → Option Fraction → Ending → Type 0
IsTrueEnding w p kept best (ends.LogicFalse item) = w.closes p (logic_false item) best
IsTrueEnding w p kept best (ends.Refuted ms) = w.closes p (refuted ms) best
IsTrueEnding w p kept best (ends.Bounded scale ms) = w.closes p (bounded scale ms) best
IsTrueEnding w p kept best (ends.Better at truths value scale ms) = IsBetter w p best at truths value scale ms
IsTrueEnding w p kept best (ends.Split s ray) = IsParted w p kept s ray
IsTrueEnding w p kept best (ends.Endless at truths ray) = w.endless (found_at at truths) ray

-- what the words and the nodes promise each other
pub record AreSound (w : Words) (m : Meaning) : Type 0 where
  pub start : w.ready [] None
  pub above : (h : Half) (p : List Half) (x : Candidate) → w.holds (h ∷ p) x → w.holds p x
  pub parts : (p : List Half) (s : Split) (x : Candidate) → w.allows p s → w.holds p x → w.holds (first s ∷ p) x ⊎ w.holds (second s ∷ p) x
  pub closing : (p : List Half) (c : Closure) (best : Option Fraction) (x : Candidate) → w.closes p c best → w.holds p x → AtLeast w best x
  pub later : (p : List Half) (c : Closure) (best : Option Fraction) (value : Fraction) → w.closes p c best → IsLess w value best → w.closes p c (Some value)
  pub proper : (x : Candidate) (value : Fraction) → w.has_value x value → w.proper value
  pub endings : (p : List Half) (kept : Option (List ℤ)) (best : Option Fraction) (ending : Ending) → w.ready p kept → IsProper w best → Settling m p kept best ending → IsTrueEnding w p kept best ending

-- a proof at this best value: each split may stand at its path, and each leaf closes its node
abbrev pub IsProof : Words → Option Fraction → List Half → ProofTree → Type 0
IsProof w b p (leaf c) = w.closes p c b
IsProof w b p (fork s t u) = w.allows p s × IsProof w b (first s ∷ p) t × IsProof w b (second s ∷ p) u

-- the claim of the best point, or that there is none
abbrev pub IsBest : Words → Option Best → Type 0
IsBest w None = (x : Candidate) → w.holds [] x → ⊥
IsBest w (Some b) = (w.holds [] (found_at b.at b.truths)) × (w.has_value (found_at b.at b.truths) b.value) × ((x : Candidate) → w.holds [] x → w.at_least b.value x)

-- what a complete log shows
abbrev pub Shows : Words → Stage → Type 0
Shows w (resting r) = IsProof w (value_of r.best) [] (tree_of r.draft) × IsBest w r.best
Shows w (working x t) = ⊥
Shows w (stuck place) = ⊥
Shows w (ended at truths ray) = w.endless (found_at at truths) ray

-- the claim is true, and the list is the preorder of a proof of it
abbrev pub IsShown : Words → Option Best → List Node → Type 0
IsShown w best nodes = IsBest w best × ((t : ProofTree) × ((preorder t ≡ nodes) × IsProof w (value_of best) [] t))
