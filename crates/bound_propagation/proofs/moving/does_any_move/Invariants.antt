use Rattle.std.proofs.Common.{◌≡◌, drop}
use Rattle.bound_propagation.specs.Moving.{does_any_move as any_moves}
use Rattle.bound_propagation.proofs.moving.does_any_move.Given as goal

abbrev pub invariant-loop-term : goal.invariant-loop-term
invariant-loop-term l = any_moves l.moved (drop l.term-index l.terms) ≡ any_moves l.moved l.terms
