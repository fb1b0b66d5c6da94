use Rattle.std.proofs.Common.{◌≡◌, length}
use Rattle.bound_propagation.specs.Moving.{HaveStayed}
use Rattle.bound_propagation.proofs.moving.moved_by.Given as goal

abbrev pub invariant-loop-place : goal.invariant-loop-place
invariant-loop-place l = record {
  count : length l.moved.items ≡ l.place;
  stayed : HaveStayed l.moved.items l.old (record { lows = l.lows; highs = l.highs });
}
