-- What the reader's lines say.
use Rattle.std.specs.Prelude.{ℕ, map}
use Rattle.std.specs.Option.{option_map}
use Rattle.gdp_grammar.specs.Forms as text
use Rattle.gdp_lines.specs.declared.form.Signed.{Signed}
use Rattle.gdp_lines.specs.declared.form.Summand.{Summand}
use Rattle.gdp_lines.specs.declared.form.Form.{Form}
use Rattle.gdp_lines.specs.declared.form.Form.TheVariants.{Var, Boolean, Goal, Row, Logic, Disjunction, Disjunct, End}
use Rattle.gdp_lines.specs.Tokens.{spelled}

-- the number with its sign
abbrev pub signed : Signed → text.Signed
signed s = record { is_negative = s.is_negative; size = spelled s.size }

-- the term of a sum
abbrev pub summand : Summand → text.Summand
summand s = record { is_negative = s.is_negative; size = option_map spelled s.size; name = s.name.now }

-- a term with the number of its variable
abbrev pub named_summand : ℕ × Summand → ℕ × text.Summand
named_summand t = (t.0, summand t.1)

-- the line
abbrev pub form : Form → text.Form
form (Var name kind low high) = text.Var name.now kind (option_map signed low) (option_map signed high)
form (Boolean name) = text.Boolean name.now
form (Goal sense sum constant) = text.Goal sense (map summand sum.items) (option_map signed constant)
form (Row sum rel right) = text.Row (map summand sum.items) rel (signed right)
form (Logic tokens) = text.Logic tokens
form (Disjunction mode) = text.Disjunction mode
form (Disjunct name) = text.Disjunct name.now
form End = text.End
