use Rattle.std.proofs.Common.{◌∙◌, ap, length, reverse, slice_index_or}
use Rattle.std.specs.List.{position}
use Rattle.gdp_tables.specs.declared.tri.Tri.TheVariants.{No}
use Rattle.model_tree.specs.Values.{model_tree}
use Rattle.model_items.specs.Items.{conditions}
use Rattle.model_forces.specs.Tables.{listed}
use Rattle.model_forces.specs.Paths.{tris_on}
use Rattle.model_forces.proofs.Listed.{listed_is}
use Rattle.model_forces.proofs.Tabled.{listed_length}
use Rattle.model_reading.specs.Reading.{is_false}
use Rattle.model_reading.proofs.dead.false_item.Goals as goal

pub first_false_item-requires : goal.first_false_item-requires
first_false_item-requires c =
    ap length (c.as_slice.ensures.value ∙ c.in_ok-tris.ensures) ∙ listed_length (tris_on (reverse c.args.halves.now)) 0 (length c.booleans.result.now) ∙ ap length c.booleans.ensures

pub returns : goal.returns
returns c =
    let t = tris_on (reverse c.args.halves.now) in
    c.first_false_item.ensures
    ∙ ap (λ ts. position (is_false (λ k. slice_index_or ts k No)) (conditions (model_tree c.args.model.now)))
    (c.as_slice.ensures.value ∙ c.in_ok-tris.ensures ∙ ap (λ bs. listed t 0 (length bs)) c.booleans.ensures)
    ∙ ap (λ u. position (is_false u) (conditions (model_tree c.args.model.now))) (listed_is (model_tree c.args.model.now) (reverse c.args.halves.now))
