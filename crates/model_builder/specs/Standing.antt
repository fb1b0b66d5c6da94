-- What a builder stands for.
use Rattle.model_builder.specs.declared.builder.ModelBuilder.{ModelBuilder}
use Rattle.model_builder.specs.Builders.{building_of}
use Rattle.model_builder.specs.Building.{BuildingValue}

-- the value that the calls of a builder change
abbrev pub stands_for : ModelBuilder → BuildingValue
stands_for b = building_of b.parts
