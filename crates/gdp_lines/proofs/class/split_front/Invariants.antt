use Rattle.std.proofs.Common.{length, ◌-◌}
use Rattle.gdp_lines.proofs.Cuts.{IsCut}
use Rattle.gdp_lines.proofs.class.split_front.Given as goal

abbrev pub invariant-bytes : goal.invariant-bytes
invariant-bytes l = IsCut l.class l.bytes l.end

abbrev pub decreases-bytes : goal.decreases-bytes
decreases-bytes l = length l.bytes - l.end
