use Rattle.std.proofs.Common.{rules, arith}
use Rattle.std.proofs.lemmas.Grind.{common_steps}
use Rattle.lp_frame.specs.Standard.{IsLifted}
use Rattle.lp_frame.proofs.Points.{keeps_point}
use Rattle.lp_frame.proofs.lifting.lift.Goals as goal

pub returns-clause-keeps : goal.returns-clause-keeps
returns-clause-keeps c =
    let lifts : IsLifted c.args.force.now.cols c.args.split.now c.in-Ok.point = first_of (search rules, grind (arith, common_steps)) in
    λ b. keeps_point c.args.force.now c.args.split.now c.in-Ok.point b lifts
