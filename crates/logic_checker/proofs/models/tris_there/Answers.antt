use Rattle.std.proofs.Common.{◌≡◌, ◌∙◌, List, IfOk, ap, subst}
use Rattle.gdp_tables.specs.declared.tri.Tri.{Tri}
use Rattle.model_forces.specs.Paths.{tris_on}
use Rattle.model_forces.specs.Tables.{listed}
use Rattle.logic_checker.proofs.Trails.{truths_listed}
use Rattle.logic_checker.proofs.models.tris_there.Goals as goal

pub returns : goal.returns
returns c =
    subst (λ (xs : List Tri). IfOk c.tris.result (λ tris. tris.items ≡ xs))
    (ap (λ p. listed (tris_on p) 0 c.args.count) (c.halves.ensures ∙ c.truths.ensures) ∙ truths_listed c.args.trail.now c.args.count) c.tris.ensures
