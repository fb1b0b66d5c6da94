use Rattle.std.proofs.Common.{◌<◌, ◌∙◌, ap, length, subst}
use Rattle.model_items.specs.Items.{item_count_of}
use Rattle.model_tree.specs.Values.{model_tree}
use Rattle.model_forces.specs.Tables.{listed}
use Rattle.model_forces.specs.Paths.{tris_on}
use Rattle.model_forces.proofs.Tabled.{listed_length}
use Rattle.model_forces.specs.Paths.{is_no}
use Rattle.logic_checker.proofs.Readings.{false_is}
use Rattle.logic_checker.proofs.models.is_item_false.Goals as goal

pub item_tri-requires-clause-truths : goal.item_tri-requires-clause-truths
item_tri-requires-clause-truths c =
    ap length (c.as_slice.ensures.value ∙ c.in_ok-tris.ensures) ∙ listed_length (tris_on c.args.trail.now) 0 (length c.booleans.result.now) ∙ ap length c.booleans.ensures

pub returns : goal.returns
returns c =
    let m = model_tree c.args.model.now in
    let p = c.args.trail.now in
    let within : c.args.item < item_count_of m = subst (λ n. c.args.item < n) c.item_count.ensures c.if-item-item_count.false in
    false_is m p c.args.item c.is_no.result c.as_slice.result.now within
    (c.as_slice.ensures.value ∙ c.in_ok-tris.ensures ∙ ap (λ bs. listed (tris_on p) 0 (length bs)) c.booleans.ensures)
    (c.is_no.ensures ∙ ap is_no c.item_tri.ensures.reading)
