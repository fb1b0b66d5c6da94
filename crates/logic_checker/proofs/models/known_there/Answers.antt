use Rattle.std.proofs.Common.{◌∙◌, ap}
use Rattle.model_forces.specs.Paths.{tris_on}
use Rattle.logic_checker.proofs.Trails.{truths_same}
use Rattle.logic_checker.proofs.models.known_there.Goals as goal

pub returns : goal.returns
returns c = c.known.ensures ∙ ap (λ p. tris_on p c.args.id) (c.halves.ensures ∙ c.truths.ensures) ∙ truths_same c.args.trail.now c.args.id
