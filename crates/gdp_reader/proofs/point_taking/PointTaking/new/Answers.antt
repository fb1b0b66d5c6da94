use Rattle.std.proofs.Common.{length, ap, arith}
use Rattle.gdp_reader.proofs.point_taking.PointTaking.new.Goals as goal

pub invariant_of-result-clause-numbered : goal.invariant_of-result-clause-numbered
invariant_of-result-clause-numbered c = omega (arith, c.in_ok-vec.ensures.len, c.in_ok-vec.field-0.ok.0, ap length c.vars.ensures.value)

pub invariant_of-result-clause-flagged : goal.invariant_of-result-clause-flagged
invariant_of-result-clause-flagged c = omega (arith, c.in_ok-vec-2.ensures.len, c.in_ok-vec-2.field-0.ok.0, ap length c.booleans.ensures)
