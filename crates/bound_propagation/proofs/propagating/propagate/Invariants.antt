use Rattle.std.proofs.Common.{◌≡◌, length}
use Rattle.bound_propagation.specs.Kept.{box_of}
use Rattle.bound_propagation.specs.Moving.{AreOthersIdle}
use Rattle.bound_propagation.specs.Narrowing.{kinds_of}
use Rattle.bound_propagation.specs.Propagated.{whole_box, rounds}
use Rattle.bound_propagation.proofs.propagating.propagate.Given as goal

abbrev pub invariant-loop-round : goal.invariant-loop-round
invariant-loop-round l = record {
  count : length l.round.bounds.lows ≡ length l.vars;
  idle : AreOthersIdle (kinds_of l.vars) l.rows l.round.moved.items (box_of l.round.bounds);
  boxed : box_of l.round.bounds ≡ rounds l._round (kinds_of l.vars) l.rows (whole_box l.vars);
}
