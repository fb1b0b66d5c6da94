use Rattle.std.proofs.Common.{arith}
use Rattle.lp_parts.proofs.Grown.{few_within, length_width}
use Rattle.lp_parts.proofs.building.push_bounds.Goals as goal

pub overflow_cast-id : goal.overflow_cast-id
overflow_cast-id c =
    let few = (few_within c.columns.milp c.columns.invariant.within).0 in
    let cols = length_width c.columns.milp.cols in
    omega (arith, c.columns-test.true, c.columns.invariant.columns, few, cols)
