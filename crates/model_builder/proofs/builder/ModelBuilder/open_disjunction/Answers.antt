use Rattle.model_tree.specs.declared.errors.BuildError.TheVariants.{Memory}
use Rattle.model_builder.specs.Builders.{building_of}
use Rattle.model_builder.specs.Nesting.{open_disjunction_outcome}
use Rattle.model_builder.specs.Whole.{IsWhole}
use Rattle.outcomes.proofs.Calls.{acts_keep}
use Rattle.model_builder.proofs.WholeLemmas.{counted_keeps}
use Rattle.model_builder.proofs.NestingLemmas.{open_disjunction_keeps_whole, open_disjunction_keeps_counted}
use Rattle.model_builder.proofs.builder.ModelBuilder.open_disjunction.Goals as goal

pub invariant_of-self : goal.invariant_of-self
invariant_of-self c =
    let b = building_of c.args.self.now.parts in
    let t = c.args.self.now.parts.totals in
    let o = open_disjunction_outcome c.args.mode c.args.mark b in
    record {
      whole = acts_keep IsWhole Memory b o c.open_disjunction.result (building_of c.open_disjunction.new.self) c.open_disjunction.ensures.acts c.args.self.now.whole
          (open_disjunction_keeps_whole c.args.mode c.args.mark b c.args.self.now.whole);
      counted = counted_keeps t c.open_disjunction.new.self.totals Memory b o c.open_disjunction.result (building_of c.open_disjunction.new.self) c.open_disjunction.ensures.acts c.open_disjunction.ensures.counted c.args.self.now.counted
          (open_disjunction_keeps_counted t c.args.mode c.args.mark b c.args.self.now.counted);
    }
