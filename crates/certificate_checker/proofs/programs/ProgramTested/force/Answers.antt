use Rattle.std.proofs.Common.{true}
use Rattle.milp_forces.proofs.Fits.{force_bounded}
use Rattle.milp_forces.proofs.Within.{within_fit}
use Rattle.milp_forces.specs.Forces.{force_at}
use Rattle.certificate_checker.proofs.Shows.{if_bounded, allowed}
use Rattle.certificate_checker.proofs.programs.ProgramTested.force.Goals as goal

pub returns-clause-bounded : goal.returns-clause-bounded
returns-clause-bounded c =
    let m = c.args.self.now.milp.now in
    let p = c.args.trail.now in
    if_bounded c.trail_force.result (force_at m p true) c.trail_force.ensures (force_bounded m p true (within_fit m c.cols-cols.ensures.within) (allowed m p c.requires))
