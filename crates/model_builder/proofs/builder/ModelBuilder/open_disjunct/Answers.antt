use Rattle.model_tree.specs.declared.errors.BuildError.TheVariants.{Memory}
use Rattle.model_builder.specs.Builders.{building_of}
use Rattle.model_builder.specs.Nesting.{open_disjunct_outcome}
use Rattle.model_builder.specs.Whole.{IsWhole}
use Rattle.outcomes.proofs.Calls.{acts_keep}
use Rattle.model_builder.proofs.WholeLemmas.{counted_keeps}
use Rattle.model_builder.proofs.NestingLemmas.{open_disjunct_keeps_whole, open_disjunct_keeps_counted}
use Rattle.model_builder.proofs.builder.ModelBuilder.open_disjunct.Goals as goal

pub invariant_of-self : goal.invariant_of-self
invariant_of-self c =
    let b = building_of c.args.self.now.parts in
    let t = c.args.self.now.parts.totals in
    let o = open_disjunct_outcome c.args.name.now c.args.mark b in
    record {
      whole = acts_keep IsWhole Memory b o c.open_disjunct.result (building_of c.open_disjunct.new.self) c.open_disjunct.ensures.acts c.args.self.now.whole
          (open_disjunct_keeps_whole c.args.name.now c.args.mark b c.args.self.now.whole);
      counted = counted_keeps t c.open_disjunct.new.self.totals Memory b o c.open_disjunct.result (building_of c.open_disjunct.new.self) c.open_disjunct.ensures.acts c.open_disjunct.ensures.counted c.args.self.now.counted
          (open_disjunct_keeps_counted t c.args.name.now c.args.mark b c.args.self.now.counted);
    }
