use Rattle.std.proofs.Common.{◌∙◌, sym, slice_index_or, arith}
use Rattle.std.proofs.lemmas.Grind.{common_steps}
use Rattle.gdp_tables.specs.declared.tri.Tri.TheVariants.{No}
use Rattle.model_reading.proofs.Passes.{prop_on}
use Rattle.model_reading.proofs.dead.pass_props.Goals as goal

pub loop-prop-preserved : goal.loop-prop-preserved
loop-prop-preserved c = record {
  below = grind (arith, common_steps);
  few = omega (arith, c.loop-prop.invariant.few);
  rest =
      prop_on c.args.props.now c.loop-prop.prop-index c.prop-item.result c.args.under (λ k. slice_index_or c.args.tris.now k No) c.loop-prop.next c.loop-prop-test.true c.prop-item.is (sym c.is_enforced_false.ensures ∙ c.if-is_enforced_false.false)
      ∙ c.loop-prop.invariant.rest;
}
