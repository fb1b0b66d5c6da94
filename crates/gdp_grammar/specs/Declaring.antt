-- What the lines of a text declare, each for itself.
use Rattle.std.specs.Prelude.{ℕ, ◌+◌, Bool, not, List, [], ◌∷◌, ◌++◌, Option, None, Some, Result, Ok, zero, suc, get_or, Err}
use Rattle.fractions.specs.Fraction.{Fraction}
use Rattle.model_tree.specs.Variables.{VarValue, BooleanValue}
use Rattle.gdp_grammar.specs.declared.cause.ReadCause.{ReadCause}
use Rattle.gdp_grammar.specs.declared.cause.ReadCause.TheVariants as cause
use Rattle.gdp_grammar.specs.Forms.{Form, Var, Boolean, Goal, Disjunct, Signed, form_of}
use Rattle.gdp_grammar.specs.Lines.{without_comment}
use Rattle.gdp_grammar.specs.Numerals.{value_of}
use Rattle.gdp_grammar.specs.Tokens.{tokens_of}
use Rattle.text_grammar.specs.Words.{words_of, is_some_word}

-- the line has no word before its comment
abbrev pub is_blank : List ℕ → Bool
is_blank line = not (is_some_word (words_of (without_comment line)))

-- the form of a line
abbrev pub form_on : List ℕ → Result Form ReadCause
form_on line = form_of (tokens_of (without_comment line))

-- the form of the line with this number, the first of which has the number 1
abbrev pub form_at : List (List ℕ) → ℕ → Result Form ReadCause
form_at lines zero = Err cause.Form
form_at lines (suc n) = form_on (get_or lines n [])

-- the value of a bound's end, where a number is written
abbrev pub end_value : Option Signed → Option Fraction
end_value None = None
end_value (Some s) = value_of s.is_negative s.size

-- the variable of a line of this form, with the line's number as its mark; no other line has one
abbrev pub var_in : ℕ → Result Form ReadCause → List VarValue
var_in line (Ok (Var name kind low high)) = (name, kind, record { low = end_value low; high = end_value high }, line) ∷ []
var_in line _ = []

-- the Boolean of a line of this form, with the line's number as its mark; a disjunct's indicator is one
abbrev pub boolean_in : ℕ → Result Form ReadCause → List BooleanValue
boolean_in line (Ok (Boolean name)) = (name, line) ∷ []
boolean_in line (Ok (Disjunct name)) = (name, line) ∷ []
boolean_in line _ = []

-- the number of a line of this form, if it is a goal's
abbrev pub goal_in : ℕ → Result Form ReadCause → List ℕ
goal_in line (Ok (Goal sense sum constant)) = line ∷ []
goal_in line _ = []

-- the variables of these lines in order, the first of which has this number
abbrev pub vars_from : ℕ → List (List ℕ) → List VarValue
vars_from line [] = []
vars_from line (l ∷ ls) = var_in line (form_on l) ++ vars_from (line + 1) ls

-- the Booleans of these lines in order, the first of which has this number
abbrev pub booleans_from : ℕ → List (List ℕ) → List BooleanValue
booleans_from line [] = []
booleans_from line (l ∷ ls) = boolean_in line (form_on l) ++ booleans_from (line + 1) ls

-- the numbers of the goals among these lines, the first of which has this number
abbrev pub goals_from : ℕ → List (List ℕ) → List ℕ
goals_from line [] = []
goals_from line (l ∷ ls) = goal_in line (form_on l) ++ goals_from (line + 1) ls
