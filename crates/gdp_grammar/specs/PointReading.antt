-- What a line of a point text adds to what the lines before it gave, or the cause against it.
use Rattle.std.specs.Prelude.{ℕ, ℤ, pos, neg_ℤ, Bool, true, false, not, ◌&&◌, ◌||◌, List, [], ◌∷◌, map, replicate, length, get_or, set, Option, None, Some, is_some, Result, Ok, if◌then◌else◌, int_lt, codes, position, bytes_eq}
use Rattle.std.specs.List.{list_all}
use Rattle.fractions.specs.Width.{fits}
use Rattle.lp_rows.specs.Points.{PointValue}
use Rattle.model_tree.specs.Values.{ModelTree}
use Rattle.gdp_grammar.specs.declared.cause.ReadCause.{ReadCause}
use Rattle.gdp_grammar.specs.declared.cause.ReadCause.TheVariants as cause
use Rattle.text_grammar.specs.Outcomes.{◌>>=◌, refused_where}
use Rattle.gdp_grammar.specs.Lines.{without_comment}
use Rattle.text_grammar.specs.Digits.{value_after}
use Rattle.gdp_grammar.specs.PointForms.{Integer, PointForm, Over, Val, On, End, point_form_of}
use Rattle.text_grammar.specs.Outcomes.{or_cause}
use Rattle.text_grammar.specs.Words.{words_of, are_words}

-- What the lines so far gave: whether the header was among them, the denominator, the number of each variable that has
-- its line, which Booleans are true, and whether the line `end` was among them.
pub record PointTaken : Type 0 where
  pub headed : Bool
  pub over : Option ℤ
  pub numbers : List (Option ℤ)
  pub truths : List Bool
  pub ended : Bool

-- before the first line
abbrev pub no_point_taken : ModelTree → PointTaken
no_point_taken m = record { headed = false; over = None; numbers = replicate (length m.vars) None; truths = replicate (length m.booleans) false; ended = false }

-- the number of the variable with this name
abbrev pub variable_at : ModelTree → List ℕ → Option ℕ
variable_at m name = position (bytes_eq name) (map (λ v. v.0) m.vars)

-- the number of the Boolean with this name
abbrev pub boolean_at : ModelTree → List ℕ → Option ℕ
boolean_at m name = position (bytes_eq name) (map (λ b. b.0) m.booleans)

-- the variable, where there is one, has its number
abbrev pub has_number : List (Option ℤ) → Option ℕ → Bool
has_number numbers None = false
has_number numbers (Some id) = is_some (get_or numbers id None)

-- the Boolean, where there is one, is true
abbrev pub is_on : List Bool → Option ℕ → Bool
is_on truths None = false
is_on truths (Some id) = get_or truths id false

-- a line on this name was among the lines so far
abbrev pub has_line : ModelTree → PointTaken → List ℕ → Bool
has_line m t name = has_number t.numbers (variable_at m name) || is_on t.truths (boolean_at m name)

-- the number if it is in the range of i128
abbrev pub if_fits : ℤ → Option ℤ
if_fits number = if fits number then Some number else None

-- the value of a whole number, if it is in the range of i128
abbrev pub integer_value : Integer → Option ℤ
integer_value n = if_fits (if n.is_negative then neg_ℤ (pos (value_after 0 n.digits)) else pos (value_after 0 n.digits))

-- the denominator: at least 1 and in the range of i128
abbrev pub over_value : List ℕ → Option ℤ
over_value digits = if int_lt (pos 0) (pos (value_after 0 digits)) then if_fits (pos (value_after 0 digits)) else None

-- lines on names stand after the line `over` and before the line `end`
abbrev pub takes_names : PointTaken → Bool
takes_names t = is_some t.over && not t.ended

-- the second line gives the denominator
unfoldable pub with_over : PointTaken → List ℕ → Result PointTaken ReadCause
with_over t digits = do
  place ← refused_where (is_some t.over) cause.Form
  over ← or_cause cause.Number (over_value digits)
  Ok (record t { over = Some over })

-- a variable is given its number
unfoldable pub with_val : ModelTree → PointTaken → List ℕ → Integer → Result PointTaken ReadCause
with_val m t name number = do
  place ← refused_where (not (takes_names t)) cause.Form
  twice ← refused_where (has_line m t name) cause.NameTwice
  id ← or_cause cause.NameUnknown (variable_at m name)
  value ← or_cause cause.Number (integer_value number)
  Ok (record t { numbers = set t.numbers id (Some value) })

-- a Boolean is made true
unfoldable pub with_on : ModelTree → PointTaken → List ℕ → Result PointTaken ReadCause
with_on m t name = do
  place ← refused_where (not (takes_names t)) cause.Form
  twice ← refused_where (has_line m t name) cause.NameTwice
  id ← or_cause cause.NameUnknown (boolean_at m name)
  Ok (record t { truths = set t.truths id true })

-- the line `end` comes where each variable has its number
unfoldable pub with_end : PointTaken → Result PointTaken ReadCause
with_end t = do
  place ← refused_where (not (takes_names t)) cause.Form
  missing ← refused_where (not (list_all is_some t.numbers)) cause.Missing
  Ok (record t { ended = true })

-- what a line of this form adds
abbrev pub with_point_form : ModelTree → PointTaken → PointForm → Result PointTaken ReadCause
with_point_form m t (Over digits) = with_over t digits
with_point_form m t (Val name number) = with_val m t name number
with_point_form m t (On name) = with_on m t name
with_point_form m t End = with_end t

-- the first line that isn't blank is the header
abbrev pub with_point_header : PointTaken → List (List ℕ) → Result PointTaken ReadCause
with_point_header t [] = Ok t
with_point_header t (word ∷ words) = do
  header ← refused_where (not (are_words (word ∷ words) (codes "gdp-point") (codes "1"))) cause.Header
  Ok (record t { headed = true })

-- a line after the header adds what its form says, and a blank one nothing
abbrev pub with_point_words : ModelTree → PointTaken → List (List ℕ) → Result PointTaken ReadCause
with_point_words m t [] = Ok t
with_point_words m t (word ∷ words) = do
  form ← point_form_of (word ∷ words)
  with_point_form m t form

-- what a line adds after the lines before it
unfoldable pub with_point_line : ModelTree → PointTaken → List ℕ → Result PointTaken ReadCause
with_point_line m t bytes =
    if t.headed then with_point_words m t (words_of (without_comment bytes))
    else with_point_header t (words_of (without_comment bytes))

-- the number, put before the others, where they are all there
abbrev pub with_first : ℤ → Option (List ℤ) → Option (List ℤ)
with_first n None = None
with_first n (Some ns) = Some (n ∷ ns)

-- the numbers, where each variable has one
abbrev pub all_numbers : List (Option ℤ) → Option (List ℤ)
all_numbers [] = Some []
all_numbers (None ∷ numbers) = None
all_numbers (Some n ∷ numbers) = with_first n (all_numbers numbers)

-- the point that the lines gave, or what is missing at the end
unfoldable pub point_after : PointTaken → Result (PointValue × List Bool) ReadCause
point_after t = do
  header ← refused_where (not t.headed) cause.Header
  end ← refused_where (not t.ended) cause.Missing
  over ← or_cause cause.Missing t.over
  nums ← or_cause cause.Missing (all_numbers t.numbers)
  Ok (record { over = over; nums = nums }, t.truths)
