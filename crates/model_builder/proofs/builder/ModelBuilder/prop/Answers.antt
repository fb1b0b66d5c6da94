use Rattle.propositions.specs.View.{prop_tree}
use Rattle.model_tree.specs.declared.errors.BuildError.TheVariants.{Memory}
use Rattle.model_builder.specs.Builders.{building_of}
use Rattle.model_builder.specs.Props.{prop_outcome}
use Rattle.model_builder.specs.Whole.{IsWhole}
use Rattle.outcomes.proofs.Calls.{acts_keep}
use Rattle.model_builder.proofs.PropsLemmas.{prop_keeps_whole}
use Rattle.model_builder.proofs.builder.ModelBuilder.prop.Goals as goal

pub invariant_of-self : goal.invariant_of-self
invariant_of-self c =
    let b = building_of c.args.self.now.parts in
    record {
      whole = acts_keep IsWhole Memory b (prop_outcome (prop_tree c.args.prop.now) c.args.mark b) c.prop.result (building_of c.prop.new.self)
          c.prop.ensures.acts c.args.self.now.whole (prop_keeps_whole (prop_tree c.args.prop.now) c.args.mark b c.args.self.now.whole);
      counted = c.prop.ensures.counted;
    }
