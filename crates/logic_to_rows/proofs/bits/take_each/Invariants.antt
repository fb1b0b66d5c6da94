use Rattle.std.proofs.Common.{◌≤◌, ◌+◌, take, pos, neg_ℤ, unsigned_abs}
use Rattle.emission.specs.Literals.{literals_times}
use Rattle.emission.specs.Run.{Adds}
use Rattle.emission.specs.View.{status_of}
use Rattle.logic_to_rows.proofs.bits.take_each.Given as goal

abbrev pub invariant-loop-l : goal.invariant-loop-l
invariant-loop-l l = record {
  adds : Adds (literals_times (neg_ℤ (pos 1)) (take l.l-index l.ls)) (status_of l.initial.out) (status_of l.out);
  small : unsigned_abs l.out.number ≤ unsigned_abs l.initial.out.number + l.l-index;
}
