-- What `format MODEL` answers for a text.
use Rattle.std.specs.Prelude.{ℕ, List}
use Rattle.gdp_grammar.specs.Canonical.{canonical_text}
use Rattle.gdp_commands.specs.declared.status.Status.TheVariants.{Done, Text}
use Rattle.gdp_commands.specs.Messages.{too_long}
use Rattle.gdp_commands.specs.Table.{Answer, FirstIf, Is}
use Rattle.gdp_commands.specs.Texts.{IsLong, ModelSays}

-- the canonical text of the model that the text spells
abbrev pub FormatSays : (model model_text : List ℕ) → Answer
FormatSays model model_text =
    FirstIf (IsLong model_text) Text (too_long model) (
    ModelSays model model_text (λ m.
    Is Done (canonical_text m)))
