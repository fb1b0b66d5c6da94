use Rattle.std.proofs.Common.{◌≡◌, ◌≤◌, ◌-◌, reverse}
use Rattle.model_forces.specs.Paths.{tris_on}
use Rattle.model_reading.specs.Reading.{first_open}
use Rattle.model_reading.proofs.loose.first_open_below.Given as goal

abbrev pub invariant-loop-round : goal.invariant-loop-round
invariant-loop-round l = record {
  far : l.round ≤ l.id;
  rest : first_open (tris_on (reverse l.halves)) l.id (l.count - l.id) ≡ first_open (tris_on (reverse l.halves)) 0 l.count;
}
