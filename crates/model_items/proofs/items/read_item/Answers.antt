use Rattle.std.proofs.Common.{slice_index_or, length}
use Rattle.gdp_tables.specs.declared.tri.Tri.TheVariants.{No}
use Rattle.propositions.specs.Tree.{atom}
use Rattle.model_items.specs.Items.{conditions}
use Rattle.model_tree.specs.Values.{model_tree}
use Rattle.model_items.proofs.PickingLemmas.{reading_within, only_found, never_passed, block_below}
use Rattle.model_items.proofs.items.read_item.Goals as goal

pub find_in_block-requires : goal.find_in_block-requires
find_in_block-requires c =
    rw (c.root.ensures, c.requires.truths)
    (block_below (length c.args.model.now.vars) (length c.args.model.now.booleans) (model_tree c.args.model.now).root c.vars.ensures.sound.root)

pub returns-in-Ok : goal.returns-in-Ok
returns-in-Ok c =
    only_found _ _ _ (rw c.root.ensures at c.in-Ok.ensures)
    (reading_within (λ k. slice_index_or c.args.truths.now k No) (conditions (model_tree c.args.model.now)) c.args.place (atom 0) c.requires.place)

pub returns-in-Err : goal.returns-in-Err
returns-in-Err c =
    never_passed _ _ _ _ (rw c.root.ensures at c.in-Err.ensures)
    (reading_within (λ k. slice_index_or c.args.truths.now k No) (conditions (model_tree c.args.model.now)) c.args.place (atom 0) c.requires.place)
