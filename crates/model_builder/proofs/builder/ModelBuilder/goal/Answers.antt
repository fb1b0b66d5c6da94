use Rattle.model_tree.specs.declared.errors.BuildError.TheVariants.{Memory}
use Rattle.model_builder.specs.Builders.{building_of}
use Rattle.model_builder.specs.Nesting.{goal_outcome}
use Rattle.model_builder.proofs.WholeLemmas.{counted_keeps}
use Rattle.model_builder.proofs.NestingLemmas.{goal_keeps_whole, goal_keeps_counted}
use Rattle.model_builder.proofs.builder.ModelBuilder.goal.Goals as goal

pub invariant_of-self : goal.invariant_of-self
invariant_of-self c =
    let b = building_of c.args.self.now.parts in
    let t = c.args.self.now.parts.totals in
    let o = goal_outcome c.args.sense c.args.terms.now c.args.constant c.args.mark b in
    record {
      whole = goal_keeps_whole c.args.sense c.args.terms.now c.args.constant c.args.mark b (building_of c.goal.new.self) c.goal.result
          c.goal.ensures.acts c.goal.ensures.lowest c.args.self.now.whole;
      counted = counted_keeps t c.goal.new.self.totals Memory b o c.goal.result (building_of c.goal.new.self) c.goal.ensures.acts c.goal.ensures.counted c.args.self.now.counted
          (goal_keeps_counted t c.args.sense c.args.terms.now c.args.constant c.args.mark b c.args.self.now.counted);
    }
