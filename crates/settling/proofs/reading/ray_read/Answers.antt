use Rattle.lp_frame.specs.Standard.{standard_of}
use Rattle.settling.proofs.Lifting.{ray_signs, lifted_ray}
use Rattle.settling.proofs.reading.ray_read.Goals as goal

pub lift_ray-requires-clause-signs : goal.lift_ray-requires-clause-signs
lift_ray-requires-clause-signs c = ray_signs c.args.force.now c.args.tableau.now c.args.enter c.in-Ok.split c.requires.form c.in-Ok.ensures.ray (c.in-Ok.ensures.keeps (standard_of c.args.force.now) c.requires.form)

pub returns-clause-ray : goal.returns-clause-ray
returns-clause-ray c =
    lifted_ray c.args.force.now c.in-Ok.split c.in-Ok-lift_ray.ray c.requires.bounded (c.in-Ok.ensures.keeps (standard_of c.args.force.now) c.requires.form) c.in-Ok-lift_ray.ensures
