use Rattle.std.proofs.Common.{◌≡◌, ◌∙◌, ap, map, length, reverse, subst, IfOk}
use Rattle.propositions.specs.Reading.{is_yes}
use Rattle.model_tree.specs.Values.{model_tree}
use Rattle.model_forces.specs.Tables.{listed}
use Rattle.model_forces.specs.Paths.{tris_on}
use Rattle.model_nodes.proofs.Tested.{truths_are}
use Rattle.model_nodes.proofs.testing.truths.Goals as goal

pub returns : goal.returns
returns c =
    let path = reverse c.args.halves.now in
    let tris = c.as_slice.ensures.value ∙ c.in_ok-tris.ensures ∙ ap (λ bs. listed (tris_on path) 0 (length bs)) c.booleans.ensures in
    subst (λ z. IfOk c.sure_ones.result (λ truths. truths.items ≡ z)) (ap (map is_yes) tris ∙ truths_are (model_tree c.args.model.now) path) c.sure_ones.ensures
