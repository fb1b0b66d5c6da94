use Rattle.model_tree.specs.declared.errors.BuildError.TheVariants.{Memory}
use Rattle.model_builder.specs.Builders.{building_of}
use Rattle.model_builder.specs.Building.{var_outcome}
use Rattle.model_builder.proofs.WholeLemmas.{counted_keeps, var_keeps_whole, var_keeps_counted}
use Rattle.model_builder.proofs.builder.ModelBuilder.var.Goals as goal

pub invariant_of-self : goal.invariant_of-self
invariant_of-self c =
    let b = building_of c.args.self.now.parts in
    let t = c.args.self.now.parts.totals in
    let o = var_outcome c.args.name.now c.args.kind c.args.bound c.args.mark b in
    record {
      whole = var_keeps_whole c.args.name.now c.args.kind c.args.bound c.args.mark b (building_of c.var.new.self) c.var.result
          c.var.ensures.acts c.var.ensures.ends c.args.self.now.whole;
      counted = counted_keeps t c.var.new.self.totals Memory b o c.var.result (building_of c.var.new.self) c.var.ensures.acts c.var.ensures.counted c.args.self.now.counted
          (var_keeps_counted t c.args.name.now c.args.kind c.args.bound c.args.mark b c.args.self.now.counted);
    }
