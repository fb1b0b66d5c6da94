use Rattle.std.proofs.Common.{◌∙◌, ℕ, refl, slice_index_or, arith}
use Rattle.std.proofs.lemmas.Grind.{common_steps}
use Rattle.gdp_tables.specs.declared.tri.Tri.{Tri}
use Rattle.gdp_tables.specs.declared.tri.Tri.TheVariants.{No}
use Rattle.model_tree.specs.View.{block_of, props_in, disjunctions_of}
use Rattle.model_reading.proofs.Passes.{block_on, block_stops, disjunction_on, disjunction_stops, disjunction_few, disjunct_on, disjunct_stops, disjunct_few}
use Rattle.model_reading.proofs.dead.+items.Goals as goal

pub pass_block-returns-in-Ok : goal.pass_block-returns-in-Ok
pass_block-returns-in-Ok t c =
    let tris : ℕ → Tri = λ k. slice_index_or c.args.tris.now k No in
    let b = block_of c.args.block.now in
    c.pass_disjunctions.ensures
    ∙ block_on b c.args.under tris c.args.from c.in-Ok.next (props_in b) (disjunctions_of c.disjunctions.result.now) refl c.disjunctions.ensures.tree c.in-Ok.ensures.passed

pub pass_block-returns-in-Err : goal.pass_block-returns-in-Err
pass_block-returns-in-Err t c =
    let tris : ℕ → Tri = λ k. slice_index_or c.args.tris.now k No in
    block_stops (block_of c.args.block.now) c.args.under tris c.args.from c.in-Err.item (props_in (block_of c.args.block.now)) refl c.in-Err.ensures.passed

pub pass_disjunctions-returns-in-Err : goal.pass_disjunctions-returns-in-Err
pass_disjunctions-returns-in-Err t c =
    disjunction_stops c.args.disjunctions.now c.loop-disjunction.disjunction-index c.disjunction-item.result c.args.under (λ k. slice_index_or c.args.tris.now k No) c.loop-disjunction.next c.in-Err.item c.loop-disjunction-test.true c.disjunction-item.is c.in-Err.ensures
    ∙ c.loop-disjunction.invariant.rest

pub pass_disjunctions-loop-disjunction-preserved : goal.pass_disjunctions-loop-disjunction-preserved
pass_disjunctions-loop-disjunction-preserved t c = record {
  below = grind (arith, common_steps);
  few =
      disjunction_few c.args.disjunctions.now c.loop-disjunction.disjunction-index c.disjunction-item.result c.args.under (λ k. slice_index_or c.args.tris.now k No) c.loop-disjunction.next c.in-Ok.after c.loop-disjunction-test.true c.disjunction-item.is c.in-Ok.ensures
      c.loop-disjunction.invariant.few;
  rest =
      disjunction_on c.args.disjunctions.now c.loop-disjunction.disjunction-index c.disjunction-item.result c.args.under (λ k. slice_index_or c.args.tris.now k No) c.loop-disjunction.next c.in-Ok.after c.loop-disjunction-test.true c.disjunction-item.is c.in-Ok.ensures
      ∙ c.loop-disjunction.invariant.rest;
}

pub pass_disjuncts-returns-in-Err : goal.pass_disjuncts-returns-in-Err
pass_disjuncts-returns-in-Err t c =
    disjunct_stops c.args.disjuncts.now c.loop-disjunct.disjunct-index c.disjunct-item.result (λ k. slice_index_or c.args.tris.now k No) c.loop-disjunct.next c.in-Err.item c.loop-disjunct-test.true c.disjunct-item.is c.in-Err.ensures
    ∙ c.loop-disjunct.invariant.rest

pub pass_disjuncts-loop-disjunct-preserved : goal.pass_disjuncts-loop-disjunct-preserved
pass_disjuncts-loop-disjunct-preserved t c = record {
  below = grind (arith, common_steps);
  few =
      disjunct_few c.args.disjuncts.now c.loop-disjunct.disjunct-index c.disjunct-item.result (λ k. slice_index_or c.args.tris.now k No) c.loop-disjunct.next c.in-Ok.after c.loop-disjunct-test.true c.disjunct-item.is c.in-Ok.ensures
      c.loop-disjunct.invariant.few;
  rest =
      disjunct_on c.args.disjuncts.now c.loop-disjunct.disjunct-index c.disjunct-item.result (λ k. slice_index_or c.args.tris.now k No) c.loop-disjunct.next c.in-Ok.after c.loop-disjunct-test.true c.disjunct-item.is c.in-Ok.ensures
      ∙ c.loop-disjunct.invariant.rest;
}
