use Rattle.std.proofs.Common.{◌∙◌, ℕ, None, length, sym, ap, arith, slice_index_or}
use Rattle.gdp_tables.specs.declared.tri.Tri.{Tri}
use Rattle.gdp_tables.specs.declared.tri.Tri.TheVariants.{No}
use Rattle.model_tree.specs.Values.{model_tree}
use Rattle.model_items.specs.Items.{conditions}
use Rattle.model_items.proofs.CountingLemmas.{block_counted, few_items}
use Rattle.model_items.proofs.PickingLemmas.{block_below}
use Rattle.model_reading.proofs.Passes.{found_in, found_is}
use Rattle.model_reading.proofs.dead.first_false_item.Goals as goal

pub pass_block-requires-clause-below : goal.pass_block-requires-clause-below
pass_block-requires-clause-below c =
    rw (c.root.ensures, c.requires)
    (block_below (length c.args.model.now.vars) (length c.args.model.now.booleans) (model_tree c.args.model.now).root c.vars.ensures.sound.root)

pub pass_block-requires-clause-few : goal.pass_block-requires-clause-few
pass_block-requires-clause-few c =
    let few = few_items (model_tree c.args.model.now) c.vars.ensures.sound in
    let counted = block_counted None (model_tree c.args.model.now).root in
    rw c.root.ensures (omega (arith, few, counted))

pub returns-in-Ok : goal.returns-in-Ok
returns-in-Ok c =
    let t : ℕ → Tri = λ k. slice_index_or c.args.tris.now k No in
    ap found_in (rw c.root.ensures at c.in-Ok.ensures) ∙ sym (found_is t (conditions (model_tree c.args.model.now)))

pub returns-in-Err : goal.returns-in-Err
returns-in-Err c =
    let t : ℕ → Tri = λ k. slice_index_or c.args.tris.now k No in
    ap found_in (rw c.root.ensures at c.in-Err.ensures) ∙ sym (found_is t (conditions (model_tree c.args.model.now)))
