use Rattle.model_builder.specs.Builders.{building_of}
use Rattle.model_builder.proofs.BuildingLemmas.{built_is_sound}
use Rattle.model_builder.proofs.parts.Parts.into_model.Goals as goal

pub new-requires : goal.new-requires
new-requires c =
    rw (c.goal_or_none-goal.ensures, c.into_block-root.ensures) (built_is_sound (building_of c.args.self) c.requires.whole c.requires.ready)
