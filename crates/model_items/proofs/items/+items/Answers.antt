use Rattle.std.proofs.Common.{slice_index_or, map, arith, ap, ◌∙◌}
use Rattle.std.proofs.lemmas.Grind.{common_steps}
use Rattle.gdp_tables.specs.declared.tri.Tri.TheVariants.{No}
use Rattle.model_items.specs.Items.{enforced, conditions_of_disjunctions}
use Rattle.model_items.specs.steps.Picking.{readings, reading_at}
use Rattle.model_tree.specs.View.{block_of}
use Rattle.model_items.proofs.PickingLemmas.{disjunction_found, disjunction_passed, disjunct_found, disjunct_passed, block_passed}
use Rattle.model_items.proofs.items.+items.Goals as goal

pub find_in_block-returns-in-Err : goal.find_in_block-returns-in-Err
find_in_block-returns-in-Err t c =
    c.find_in_disjunctions.ensures
    ∙ ap (λ ds. reading_at (readings (λ k. slice_index_or c.args.truths.now k No) (conditions_of_disjunctions c.args.under ds)) c.in-Err.left) c.disjunctions.ensures.tree
    ∙ block_passed (block_of c.args.block.now) c.args.under (λ k. slice_index_or c.args.truths.now k No) c.args.place c.in-Err.left
    (c.in-Err.ensures ∙ ap (λ qs. reading_at (readings (λ k. slice_index_or c.args.truths.now k No) (map (λ q. enforced c.args.under q.0) qs)) c.args.place) c.props.ensures.tree)

pub find_in_disjunctions-returns-in-Ok : goal.find_in_disjunctions-returns-in-Ok
find_in_disjunctions-returns-in-Ok t c =
    disjunction_found c.args.disjunctions.now c.loop-disjunction.disjunction-index c.disjunction-item.result c.args.under (λ k. slice_index_or c.args.truths.now k No) c.loop-disjunction.left c.in-Ok.reading c.loop-disjunction-test.true c.disjunction-item.is c.in-Ok.ensures
    ∙ c.loop-disjunction.invariant.rest

pub find_in_disjunctions-loop-disjunction-preserved : goal.find_in_disjunctions-loop-disjunction-preserved
find_in_disjunctions-loop-disjunction-preserved t c = record {
  below = grind (arith, common_steps);
  rest =
      disjunction_passed c.args.disjunctions.now c.loop-disjunction.disjunction-index c.disjunction-item.result c.args.under (λ k. slice_index_or c.args.truths.now k No) c.loop-disjunction.left c.in-Err.rest c.loop-disjunction-test.true c.disjunction-item.is c.in-Err.ensures
      ∙ c.loop-disjunction.invariant.rest;
}

pub find_in_disjuncts-returns-in-Ok : goal.find_in_disjuncts-returns-in-Ok
find_in_disjuncts-returns-in-Ok t c =
    disjunct_found c.args.disjuncts.now c.loop-disjunct.disjunct-index c.disjunct-item.result (λ k. slice_index_or c.args.truths.now k No) c.loop-disjunct.left c.in-Ok.reading c.loop-disjunct-test.true c.disjunct-item.is c.in-Ok.ensures
    ∙ c.loop-disjunct.invariant.rest

pub find_in_disjuncts-loop-disjunct-preserved : goal.find_in_disjuncts-loop-disjunct-preserved
find_in_disjuncts-loop-disjunct-preserved t c = record {
  below = grind (arith, common_steps);
  rest =
      disjunct_passed c.args.disjuncts.now c.loop-disjunct.disjunct-index c.disjunct-item.result (λ k. slice_index_or c.args.truths.now k No) c.loop-disjunct.left c.in-Err.rest c.loop-disjunct-test.true c.disjunct-item.is c.in-Err.ensures
      ∙ c.loop-disjunct.invariant.rest;
}
