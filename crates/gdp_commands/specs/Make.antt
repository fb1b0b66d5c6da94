-- What `make SEED SIZE` answers.
use Rattle.std.specs.Prelude.{ℕ}
use Rattle.gdp_grammar.specs.Canonical.{canonical_text}
use Rattle.model_maker.specs.Generated.{generated}
use Rattle.gdp_commands.specs.declared.status.Status.TheVariants.{Done}
use Rattle.gdp_commands.specs.Table.{Answer, Is}

-- the canonical text of the model that the seed and the size give
abbrev pub MakeSays : (seed size : ℕ) → Answer
MakeSays seed size = Is Done (canonical_text (generated seed size))
