use Rattle.std.proofs.Common.{◌<◌, length, sym, subst}
use Rattle.milp_forces.proofs.Fits.{few_columns}
use Rattle.milp_forces.proofs.Within.{within_fit}
use Rattle.milp_forces.proofs.Trails.{force_there}
use Rattle.milp_forces.proofs.kept.trail_force.Goals as goal

pub push_kept-requires : goal.push_kept-requires
push_kept-requires c = subst (λ cols. length cols < 4294967296) (sym c.cols.ensures.cols) (few_columns c.args.milp.now (within_fit c.args.milp.now c.cols.ensures.within))

pub returns : goal.returns
returns c = force_there c.args.milp.now c.args.trail.now c.new.result c.args.goal c.in_ok-force.force c.cols.result.now c.push_kept.new.rows c.in_ok-force.ensures c.new.ensures c.cols.ensures.cols c.in_ok-push_kept.ensures
