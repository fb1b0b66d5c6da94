use Rattle.model_tree.specs.declared.errors.BuildError.TheVariants.{Memory}
use Rattle.model_builder.specs.Builders.{building_of}
use Rattle.model_builder.specs.Nesting.{boolean_outcome}
use Rattle.model_builder.specs.Whole.{IsWhole}
use Rattle.outcomes.proofs.Calls.{acts_keep}
use Rattle.model_builder.proofs.WholeLemmas.{counted_keeps}
use Rattle.model_builder.proofs.NestingLemmas.{boolean_keeps_whole, boolean_keeps_counted}
use Rattle.model_builder.proofs.builder.ModelBuilder.boolean.Goals as goal

pub invariant_of-self : goal.invariant_of-self
invariant_of-self c =
    let b = building_of c.args.self.now.parts in
    let t = c.args.self.now.parts.totals in
    let o = boolean_outcome c.args.name.now c.args.mark b in
    record {
      whole = acts_keep IsWhole Memory b o c.boolean.result (building_of c.boolean.new.self) c.boolean.ensures.acts c.args.self.now.whole
          (boolean_keeps_whole c.args.name.now c.args.mark b c.args.self.now.whole);
      counted = counted_keeps t c.boolean.new.self.totals Memory b o c.boolean.result (building_of c.boolean.new.self) c.boolean.ensures.acts c.boolean.ensures.counted c.args.self.now.counted
          (boolean_keeps_counted t c.args.name.now c.args.mark b c.args.self.now.counted);
    }
