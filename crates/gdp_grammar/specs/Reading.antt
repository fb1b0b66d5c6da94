-- What a line adds to what the lines before it gave, or the cause against it.
use Rattle.std.specs.Prelude.{ℕ, pos, Bool, true, false, not, List, [], ◌∷◌, map, Option, None, Some, is_some, Result, Ok, Err, if◌then◌else◌, ◌==◌, ◌||◌, codes, position, bytes_eq}
use Rattle.fractions.specs.Fraction.{Fraction}
use Rattle.lp_rows.specs.declared.kinds.Kind.{Kind}
use Rattle.lp_rows.specs.declared.kinds.Rel.{Rel}
use Rattle.lp_rows.specs.declared.kinds.Sense.{Sense}
use Rattle.model_tree.specs.declared.errors.BuildError.{BuildError}
use Rattle.model_tree.specs.declared.errors.BuildError.TheVariants as refusal
use Rattle.model_builder.specs.Building.{BuildingValue, new_building, is_at_root, is_taken, var_outcome, row_outcome, finish_outcome}
use Rattle.model_builder.specs.Nesting.{boolean_outcome, goal_outcome, open_disjunction_outcome, open_disjunct_outcome, close_outcome}
use Rattle.model_builder.specs.Props.{prop_outcome}
use Rattle.model_tree.specs.Values.{ModelTree}
use Rattle.model_tree.specs.Variables.{VarValue}
use Rattle.gdp_grammar.specs.declared.cause.ReadCause.{ReadCause}
use Rattle.gdp_grammar.specs.declared.cause.ReadCause.TheVariants as cause
use Rattle.text_grammar.specs.Outcomes.{◌>>=◌, refused_where, or_cause}
use Rattle.gdp_grammar.specs.Forms.{Form, Var, Boolean, Goal, Row, Logic, Disjunction, Disjunct, End, Signed, Summand, form_of}
use Rattle.gdp_grammar.specs.Lines.{without_comment}
use Rattle.gdp_grammar.specs.Numerals.{Numeral, signed, value_of}
use Rattle.gdp_grammar.specs.PropNames.{are_known, tree_in}
use Rattle.gdp_grammar.specs.PropReading.{prop_of}
use Rattle.gdp_grammar.specs.Tokens.{Piece, tokens_of}
use Rattle.text_grammar.specs.Words.{words_of, are_words}

-- a whole number with its sign
abbrev pub signed_whole : Bool → ℕ → Fraction
signed_whole is_negative size = record { num = signed is_negative size; den = pos 1 }

-- an end of a bound
abbrev pub end_of : Option Signed → Result (Option Fraction) ReadCause
end_of None = Ok None
end_of (Some s) = do
  value ← or_cause cause.Number (value_of s.is_negative s.size)
  Ok (Some value)

-- the cause of a refusal of the builder
abbrev pub cause_of : BuildError → ReadCause
cause_of refusal.Place = cause.Form
cause_of refusal.NameTwice = cause.NameTwice
cause_of refusal.NameUnknown = cause.NameUnknown
cause_of refusal.Number = cause.Number
cause_of refusal.Nesting = cause.Nesting
cause_of refusal.Unclosed = cause.Unclosed
cause_of refusal.Limit = cause.Limit
cause_of refusal.Missing = cause.Missing
cause_of refusal.Memory = cause.Missing

-- what a call of the builder leaves, or the cause of its refusal
abbrev pub after_call : {A B : Type 0} → Result A BuildError × B → Result B ReadCause
after_call (Ok answer, next) = Ok next
after_call (Err refusal, old) = Err (cause_of refusal)

-- a variable is declared
unfoldable pub with_var : BuildingValue → ℕ → List ℕ → Kind → Option Signed → Option Signed → Result BuildingValue ReadCause
with_var b line name kind low high = do
  place ← refused_where (not (is_at_root b)) cause.Form
  new ← refused_where (is_taken name b) cause.NameTwice
  low ← end_of low
  high ← end_of high
  after_call (var_outcome name kind (record { low = low; high = high }) line b)

-- the number of the variable with this name, if one was declared
abbrev pub id_of : List VarValue → List ℕ → Option ℕ
id_of vars name = position (bytes_eq name) (map (λ v. v.0) vars)

-- the numbers of a sum's variables, where they were declared
abbrev pub named : List VarValue → List Summand → List (Option ℕ)
named vars sum = map (λ s. id_of vars s.name) sum

-- the number stands among these
abbrev pub stands_in : ℕ → List (Option ℕ) → Bool
stands_in id [] = false
stands_in id (None ∷ ids) = stands_in id ids
stands_in id (Some other ∷ ids) = (id == other) || stands_in id ids

-- one number stands twice
abbrev pub has_twice : List (Option ℕ) → Bool
has_twice [] = false
has_twice (None ∷ ids) = has_twice ids
has_twice (Some id ∷ ids) = stands_in id ids || has_twice ids

-- the terms of a sum with the numbers of their variables, where each name is known
abbrev pub known_terms : List VarValue → List Summand → Result (List (ℕ × Summand)) ReadCause
known_terms vars [] = Ok []
known_terms vars (s ∷ sum) = do
  id ← or_cause cause.NameUnknown (id_of vars s.name)
  others ← known_terms vars sum
  Ok ((id, s) ∷ others)

-- a coefficient with its sign: 1 where no number is written
abbrev pub coefficient : Bool → Option Numeral → Option Fraction
coefficient is_negative None = Some (signed_whole is_negative 1)
coefficient is_negative (Some size) = value_of is_negative size

-- the coefficient of a term
abbrev pub coefficient_of : Summand → Option Fraction
coefficient_of s = coefficient s.is_negative s.size

-- terms with the values of their coefficients, where each is in range
abbrev pub valued_terms : List (ℕ × Summand) → Result (List (ℕ × Fraction)) ReadCause
valued_terms [] = Ok []
valued_terms (t ∷ ts) = do
  coefficient ← or_cause cause.Number (coefficient_of t.1)
  others ← valued_terms ts
  Ok ((t.0, coefficient) ∷ others)

-- the terms of a sum: no variable stands twice in it, each name is known, and each number is in range
unfoldable pub terms_of : List VarValue → List Summand → Result (List (ℕ × Fraction)) ReadCause
terms_of vars sum = do
  twice ← refused_where (has_twice (named vars sum)) cause.NameTwice
  known ← known_terms vars sum
  valued_terms known

-- the constant of a goal: 0 where none is written
abbrev pub constant_value : Option Signed → Option Fraction
constant_value None = Some (signed_whole false 0)
constant_value (Some s) = value_of s.is_negative s.size

-- the goal is set
unfoldable pub with_goal : BuildingValue → ℕ → Sense → List Summand → Option Signed → Result BuildingValue ReadCause
with_goal b line sense sum constant = do
  place ← refused_where (not (is_at_root b) || is_some b.goal) cause.Form
  terms ← terms_of b.vars sum
  constant ← or_cause cause.Number (constant_value constant)
  after_call (goal_outcome sense terms constant line b)

-- a row is appended
unfoldable pub with_row : BuildingValue → ℕ → List Summand → Rel → Signed → Result BuildingValue ReadCause
with_row b line sum rel right = do
  place ← refused_where (is_some b.opened) cause.Form
  terms ← terms_of b.vars sum
  right ← or_cause cause.Number (value_of right.is_negative right.size)
  after_call (row_outcome terms rel right line b)

-- a proposition is appended: it stands in a block, its tokens spell it, and its names are known
unfoldable pub with_logic : BuildingValue → ℕ → List Piece → Result BuildingValue ReadCause
with_logic b line tokens = do
  place ← refused_where (is_some b.opened) cause.Form
  p ← prop_of tokens
  known ← refused_where (not (are_known b.booleans p)) cause.NameUnknown
  after_call (prop_outcome (tree_in b.booleans p) line b)

-- what a line of this form adds; the line `end` closes the innermost that is open
abbrev pub with_form : BuildingValue → ℕ → Form → Result BuildingValue ReadCause
with_form b line (Var name kind low high) = with_var b line name kind low high
with_form b line (Boolean name) = after_call (boolean_outcome name line b)
with_form b line (Goal sense sum constant) = with_goal b line sense sum constant
with_form b line (Row sum rel right) = with_row b line sum rel right
with_form b line (Logic tokens) = with_logic b line tokens
with_form b line (Disjunction mode) = after_call (open_disjunction_outcome mode line b)
with_form b line (Disjunct name) = after_call (open_disjunct_outcome name line b)
with_form b line End = after_call (close_outcome b)

-- what the lines so far gave: whether the header was among them, and what they built
pub record Taken : Type 0 where
  pub headed : Bool
  pub building : BuildingValue

-- before the first line
abbrev pub nothing_taken : Taken
nothing_taken = record { headed = false; building = new_building }

-- the words are the header's
abbrev pub is_header : List (List ℕ) → Bool
is_header words = are_words words (codes "gdp") (codes "1")

-- the first line that isn't blank is the header
abbrev pub with_header : Taken → List (List ℕ) → Result Taken ReadCause
with_header t [] = Ok t
with_header t (word ∷ words) = do
  header ← refused_where (not (is_header (word ∷ words))) cause.Header
  Ok (record t { headed = true })

-- a line after the header adds what its form says, and a blank one nothing
abbrev pub with_tokens : Taken → ℕ → List Piece → Result Taken ReadCause
with_tokens t line [] = Ok t
with_tokens t line (p ∷ ps) = do
  form ← form_of (p ∷ ps)
  building ← with_form t.building line form
  Ok (record t { building = building })

-- what a line adds after the header, or before it
abbrev pub with_content : Taken → ℕ → List ℕ → Result Taken ReadCause
with_content t line content = if t.headed then with_tokens t line (tokens_of content) else with_header t (words_of content)

-- what a line adds after the lines before it
unfoldable pub with_line : Taken → ℕ → List ℕ → Result Taken ReadCause
with_line t line bytes = with_content t line (without_comment bytes)

-- the model, or the cause of the builder's refusal
abbrev pub finished : Result ModelTree BuildError → Result ModelTree ReadCause
finished (Ok m) = Ok m
finished (Err refusal) = Err (cause_of refusal)

-- the model that the lines gave, or what is missing at the end
unfoldable pub model_after : Taken → Result ModelTree ReadCause
model_after t = do
  header ← refused_where (not t.headed) cause.Header
  finished (finish_outcome t.building)
