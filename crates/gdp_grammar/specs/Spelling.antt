-- When a text spells a model, and where it first goes wrong.
use Rattle.std.specs.Prelude.{ℕ, List}
use Rattle.text_grammar.specs.Grammars.{Grammar, SpellsBy, IsFirstBadBy}
use Rattle.text_grammar.specs.Lines.{lines_of}
use Rattle.model_tree.specs.Values.{ModelTree}
use Rattle.gdp_grammar.specs.declared.cause.ReadCause.{ReadCause}
use Rattle.gdp_grammar.specs.Reading.{Taken, nothing_taken, with_line, model_after}

-- the grammar of model texts
abbrev pub model_grammar : Grammar (List ℕ) Taken ModelTree ReadCause
model_grammar = record { start = nothing_taken; step = λ line taken bytes. with_line taken line bytes; finish = model_after }

-- The text spells the model: its lines give it, none has a cause against it, and nothing is missing at the end.
abbrev pub Spells : List ℕ → ModelTree → Type 0
Spells text m = SpellsBy model_grammar (lines_of text) m

-- the first bad line of a text, or its end, and the cause
abbrev pub IsFirstBad : List ℕ → ℕ → ReadCause → Type 0
IsFirstBad text line cause = IsFirstBadBy model_grammar (lines_of text) line cause
