-- The proposition of a line.
use Rattle.std.specs.Prelude.{List, Option, None, Some, Result, Ok, Err}
use Rattle.propositions.specs.Tree.{PropTree}
use Rattle.model_tree.specs.Variables.{BooleanValue}
use Rattle.gdp_grammar.specs.declared.cause.ReadCause.{ReadCause}
use Rattle.text_grammar.specs.Outcomes.{◌>>=◌}
use Rattle.gdp_grammar.specs.PropNames.{tree_in}
use Rattle.gdp_grammar.specs.PropReading.{prop_of}
use Rattle.gdp_grammar.specs.PropTexts.{NamedProp}
use Rattle.gdp_grammar.specs.Tokens.{Piece}
use Rattle.prop_reader.specs.SizeCauses.{refusal_of_named}

-- the tree where nothing is against it
abbrev pub kept : Option ReadCause → PropTree → Result PropTree ReadCause
kept None t = Ok t
kept (Some cause) t = Err cause

-- the tree of a proposition with known names, small numbers and a size within the limits
abbrev pub kept_tree : List BooleanValue → NamedProp → Result PropTree ReadCause
kept_tree booleans p = kept (refusal_of_named booleans p) (tree_in booleans p)

-- the tree of the proposition that these tokens spell
abbrev pub line_tree : List BooleanValue → List Piece → Result PropTree ReadCause
line_tree booleans ps = prop_of ps >>= λ p. kept_tree booleans p
