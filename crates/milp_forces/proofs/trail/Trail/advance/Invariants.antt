use Rattle.std.proofs.Common.{◌≡◌, length}
use Rattle.proof_tree.specs.Paths.{after_leaf}
use Rattle.milp_forces.proofs.trail.Trail.advance.Given as goal

abbrev pub invariant-halves : goal.invariant-halves
invariant-halves l = after_leaf l.self ≡ after_leaf l.initial.self

abbrev pub decreases-halves : goal.decreases-halves
decreases-halves l = length l.self
