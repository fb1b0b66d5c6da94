-- What a line gives, by what is read of its tokens.
use Rattle.std.proofs.Common.{◌≡◌, List, Result, Ok, Err, ap, sym, ◌∙◌}
use Rattle.model_tree.specs.Variables.{BooleanValue}
use Rattle.gdp_grammar.specs.declared.cause.ReadCause.{ReadCause}
use Rattle.text_grammar.specs.Outcomes.{◌>>=◌, result_map}
use Rattle.gdp_grammar.specs.PropReading.{prop_of}
use Rattle.gdp_grammar.specs.PropTexts.{NamedProp}
use Rattle.gdp_grammar.specs.Tokens.{Piece}
use Rattle.gdp_lines.specs.declared.fault.LineError.{LineError}
use Rattle.gdp_lines.specs.declared.fault.LineError.TheVariants.{Refused, Memory}
use Rattle.gdp_lines.specs.Gives.{Fails}
use Rattle.prop_reader.specs.LogicLines.{kept_tree, line_tree}
use Rattle.prop_reader.specs.steps.Readings.{ReadTree, reading_of}

-- what isn't read is refused
unread : {A B C : Type 0} (f : A → B) (g : A → Result C ReadCause) (r : Result A ReadCause) (e : LineError) → Fails e (result_map f r) → Fails e (r >>= g)
unread f g r Memory fails = tt
unread f g (Ok x) (Refused c) fails = absurd (cc fails)
unread f g (Err d) (Refused c) fails = let same : d ≡ c = cc fails in cc same

tree_read : (booleans : List BooleanValue) (r : Result NamedProp ReadCause) (read : ReadTree) → result_map (reading_of booleans) r ≡ Ok read → (r >>= λ p. kept_tree booleans p) ≡ read.1
tree_read booleans (Ok p) read is = let same : reading_of booleans p ≡ read = cc is in ap (λ (x : ReadTree). x.1) same
tree_read booleans (Err d) read is = absurd (cc is)

-- the tokens are those of the line
pub line_unread : (booleans : List BooleanValue) (ps qs : List Piece) (e : LineError) → qs ≡ ps → Fails e (result_map (reading_of booleans) (prop_of qs)) → Fails e (line_tree booleans ps)
line_unread booleans ps qs e same fails = rw (← same) (unread (reading_of booleans) (λ p. kept_tree booleans p) (prop_of qs) e fails)

pub line_read : (booleans : List BooleanValue) (ps qs : List Piece) (read : ReadTree) → qs ≡ ps → result_map (reading_of booleans) (prop_of qs) ≡ Ok read → line_tree booleans ps ≡ read.1
line_read booleans ps qs read same is = ap (line_tree booleans) (sym same) ∙ tree_read booleans (prop_of qs) read is
