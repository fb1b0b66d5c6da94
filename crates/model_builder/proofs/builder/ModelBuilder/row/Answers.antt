use Rattle.model_tree.specs.declared.errors.BuildError.TheVariants.{Memory}
use Rattle.model_builder.specs.Builders.{building_of}
use Rattle.model_builder.specs.Building.{row_outcome}
use Rattle.model_builder.specs.Whole.{IsWhole}
use Rattle.outcomes.proofs.Calls.{acts_keep}
use Rattle.model_builder.proofs.NestingLemmas.{row_keeps_whole}
use Rattle.model_builder.proofs.builder.ModelBuilder.row.Goals as goal

pub invariant_of-self : goal.invariant_of-self
invariant_of-self c =
    let b = building_of c.args.self.now.parts in
    record {
      whole = acts_keep IsWhole Memory b (row_outcome c.args.terms.now c.args.rel c.args.right c.args.mark b) c.row.result (building_of c.row.new.self)
          c.row.ensures.acts c.args.self.now.whole (row_keeps_whole c.args.terms.now c.args.rel c.args.right c.args.mark b c.args.self.now.whole);
      counted = c.row.ensures.counted;
    }
