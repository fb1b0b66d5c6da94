use Rattle.model_tree.specs.declared.errors.BuildError.TheVariants.{Memory}
use Rattle.model_builder.specs.Builders.{building_of}
use Rattle.model_builder.specs.Nesting.{close_outcome}
use Rattle.model_builder.specs.Whole.{IsWhole}
use Rattle.outcomes.proofs.Calls.{acts_keep}
use Rattle.model_builder.proofs.WholeLemmas.{counted_keeps}
use Rattle.model_builder.proofs.NestingLemmas.{close_keeps_whole, close_keeps_counted}
use Rattle.model_builder.proofs.builder.ModelBuilder.close.Goals as goal

pub invariant_of-self : goal.invariant_of-self
invariant_of-self c =
    let b = building_of c.args.self.now.parts in
    let t = c.args.self.now.parts.totals in
    let o = close_outcome b in
    record {
      whole = acts_keep IsWhole Memory b o c.close.result (building_of c.close.new.self) c.close.ensures.acts c.args.self.now.whole
          (close_keeps_whole b c.args.self.now.whole);
      counted = counted_keeps t c.close.new.self.totals Memory b o c.close.result (building_of c.close.new.self) c.close.ensures.acts c.close.ensures.counted c.args.self.now.counted
          (close_keeps_counted t b c.args.self.now.counted);
    }
