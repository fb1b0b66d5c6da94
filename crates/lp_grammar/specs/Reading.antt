-- What a line of an LP text adds to what the lines before it gave, or the cause against it.
use Rattle.std.specs.Prelude.{ℕ, suc, ℤ, unsigned_abs, Bool, true, false, not, ◌&&◌, ◌||◌, nat_le, nat_eq, ◌+◌, List, [], ◌∷◌, ◌++◌, map, Option, None, Some, Result, Ok, Err, if◌then◌else◌}
use Rattle.fractions.specs.Fraction.{Fraction}
use Rattle.lp_rows.specs.declared.columns.Col.{Col}
use Rattle.lp_rows.specs.declared.columns.Sign.{Sign as ColumnSign}
use Rattle.lp_rows.specs.declared.columns.Sign.TheVariants.{Free, Nonneg}
use Rattle.lp_rows.specs.declared.kinds.Kind.{Kind}
use Rattle.lp_rows.specs.declared.kinds.Kind.TheVariants.{Real, Int}
use Rattle.lp_rows.specs.declared.kinds.Rel.{Rel}
use Rattle.lp_rows.specs.declared.kinds.Rel.TheVariants.{AtMost, AtLeast, Equal}
use Rattle.lp_rows.specs.declared.kinds.Sense.TheVariants.{Min, Max}
use Rattle.lp_rows.specs.Rows.{RowValue}
use Rattle.text_grammar.specs.Grammars.{Grammar}
use Rattle.text_grammar.specs.Outcomes.{◌>>=◌, refused_where}
use Rattle.lp_grammar.specs.declared.cause.LpCause.{LpCause}
use Rattle.lp_grammar.specs.declared.cause.LpCause.TheVariants as cause
use Rattle.lp_grammar.specs.declared.section.Section.{Section}
use Rattle.lp_grammar.specs.declared.section.Section.TheVariants as section
use Rattle.lp_grammar.specs.declared.stage.Pending.{Pending}
use Rattle.lp_grammar.specs.declared.stage.Stage.{Stage}
use Rattle.lp_grammar.specs.declared.stage.Stage.TheVariants.{Before, Goal, GoalLabel, Rows, RowLabel, Right, Bounds, BoundOf, BoundTo, BoundSign, BoundFrom, BoundOn, BoundMore, Names, Ended}
use Rattle.lp_grammar.specs.Items.{Item, Opens, Has, Line}
use Rattle.lp_grammar.specs.Programs.{most_cols, most_rows}
use Rattle.milps.specs.Milps.{MilpValue}
use Rattle.milps.specs.Building.{width, rows_height, bounds_height}
use Rattle.lp_grammar.specs.declared.stage.Column.{Column}
use Rattle.lp_grammar.specs.Taking.{Taken, nothing_taken, note_if, at_stage, numeral_value, is_huge, turned_if, or_one, is_out, nothing_pending, coefficient_of, with_sign, with_size, column_of, with_name, with_goal_term, with_row_term, with_constant, counted, row_of, with_row, or_zero, objective_of, with_objective, with_column, added_rows, bounded_by, freed, made_integer, made_binary, turned, is_infinite_word, is_free_word}
use Rattle.lp_grammar.specs.Tokens.{Token, Name, Number, Sign, Compare, Colon, Numeral}

-- what goes on with what was taken, if it was
abbrev pub and_then : {A B : Type 0} → Option A → (A → Option B) → Option B
and_then None next = None
and_then (Some x) next = next x

-- a number that is out of range is noted
abbrev pub with_number : Option Fraction → Taken → Taken
with_number value t = note_if (is_out value) cause.Number t

-- a token of the objective
abbrev pub goal_sign : Taken → Pending → Option Fraction → Bool → Option Taken
goal_sign t p None is_negative = Some (at_stage (Goal false (with_sign is_negative p)) t)
goal_sign t p (Some f) is_negative =
    and_then (with_constant t p (Some f)) (λ next. Some (at_stage (Goal false (with_sign is_negative nothing_pending)) next))

abbrev pub goal_size : Taken → Pending → Option Fraction → Option Fraction → Option Taken
goal_size t p None value = Some (with_number value (at_stage (Goal false (with_size (or_one value) p)) t))
goal_size t p (Some f) value =
    and_then (with_constant t p (Some f)) (λ next. Some (with_number value (at_stage (Goal false (with_size (or_one value) nothing_pending)) next)))

abbrev pub goal_token : Taken → Bool → Pending → Token → Bool → Option Taken
goal_token t is_fresh p (Name name) is_labelled =
    if is_fresh && is_labelled then Some (at_stage GoalLabel (with_name name t))
    else with_goal_term (column_of (with_name name t) name) (coefficient_of p)
goal_token t is_fresh p (Sign is_negative) is_labelled = goal_sign t p p.size is_negative
goal_token t is_fresh p (Number n) is_labelled = goal_size t p p.size (numeral_value n)
goal_token t is_fresh p _ is_labelled = None

-- a token of a row before its relation; a number has to stand before a name
abbrev pub is_empty : {A : Type 0} → List A → Bool
is_empty [] = true
is_empty (x ∷ xs) = false

abbrev pub row_token : Taken → Bool → Pending → Token → Bool → Option Taken
row_token t is_fresh p (Name name) is_labelled =
    if is_fresh && is_labelled then Some (at_stage RowLabel (with_name name t))
    else with_row_term (column_of (with_name name t) name) (coefficient_of p)
row_token t is_fresh p (Sign is_negative) is_labelled =
    if is_out p.size then Some (at_stage (Rows false (with_sign is_negative p)) t) else None
row_token t is_fresh p (Number n) is_labelled =
    if is_out p.size then Some (with_number (numeral_value n) (at_stage (Rows false (with_size (or_one (numeral_value n)) p)) t)) else None
row_token t is_fresh p (Compare rel) is_labelled =
    if p.is_open || is_empty t.terms then None else Some (at_stage (Right rel None) t)
row_token t is_fresh p _ is_labelled = None

-- a token behind a row's relation
abbrev pub is_minus : Option Bool → Bool
is_minus None = false
is_minus (Some is_negative) = is_negative

abbrev pub right_token : Taken → Rel → Option Bool → Token → Option Taken
right_token t rel None (Sign is_negative) = Some (at_stage (Right rel (Some is_negative)) t)
right_token t rel (Some sign) (Sign is_negative) = None
right_token t rel sign (Number n) =
    Some (with_row (row_of t.terms rel (turned_if (is_minus sign) (or_one (numeral_value n)))) (with_number (numeral_value n) t))
right_token t rel sign _ = None

-- a value of a bound, none where it is infinite, and what is noted against it
abbrev pub signed_value : Bool → Numeral → Option Fraction
signed_value is_negative n = if is_huge n then None else Some (turned_if is_negative (or_one (numeral_value n)))

abbrev pub with_value : Numeral → Taken → Taken
with_value n t = if is_huge n then t else with_number (numeral_value n) t

-- a token that begins a bound
abbrev pub bound_name : ℕ × Taken → Taken
bound_name found = at_stage (BoundOf found.0) found.1

abbrev pub bound_token : Taken → Token → Option Taken
bound_token t (Name name) =
    if is_infinite_word name then Some (at_stage (BoundFrom None) t)
    else (if is_free_word name then None else Some (bound_name (column_of (with_name name t) name)))
bound_token t (Sign is_negative) = Some (at_stage (BoundSign is_negative) t)
bound_token t (Number n) = Some (with_value n (at_stage (BoundFrom (signed_value false n)) t))
bound_token t _ = None

-- a token behind the column of a bound
abbrev pub bound_of_token : Taken → ℕ → Token → Option Taken
bound_of_token t id (Name name) = if is_free_word name then Some (with_column id freed (at_stage Bounds t)) else None
bound_of_token t id (Compare rel) = Some (at_stage (BoundTo id rel None) t)
bound_of_token t id _ = None

-- a token behind the relation of a column
abbrev pub bound_to_token : Taken → ℕ → Rel → Option Bool → Token → Option Taken
bound_to_token t id rel None (Sign is_negative) = Some (at_stage (BoundTo id rel (Some is_negative)) t)
bound_to_token t id rel (Some sign) (Sign is_negative) = None
bound_to_token t id rel sign (Number n) =
    Some (with_value n (with_column id (bounded_by rel (signed_value (is_minus sign) n)) (at_stage Bounds t)))
bound_to_token t id rel sign (Name name) = if is_infinite_word name then Some (with_column id (bounded_by rel None) (at_stage Bounds t)) else None
bound_to_token t id rel sign _ = None

-- a token behind a sign that begins a bound
abbrev pub bound_sign_token : Taken → Bool → Token → Option Taken
bound_sign_token t is_negative (Number n) = Some (with_value n (at_stage (BoundFrom (signed_value is_negative n)) t))
bound_sign_token t is_negative (Name name) = if is_infinite_word name then Some (at_stage (BoundFrom None) t) else None
bound_sign_token t is_negative _ = None

-- a token behind a value, and behind its relation; after `<=` a second one may come
abbrev pub bound_from_token : Taken → Option Fraction → Token → Option Taken
bound_from_token t value (Compare rel) = Some (at_stage (BoundOn value rel) t)
bound_from_token t value _ = None

abbrev pub stage_after : Rel → ℕ → Stage
stage_after AtMost id = BoundMore id
stage_after AtLeast id = Bounds
stage_after Equal id = Bounds

abbrev pub bound_from : Option Fraction → Rel → ℕ × Taken → Taken
bound_from value rel found = with_column found.0 (bounded_by (turned rel) value) (at_stage (stage_after rel found.0) found.1)

abbrev pub bound_on_token : Taken → Option Fraction → Rel → Token → Option Taken
bound_on_token t value rel (Name name) =
    if is_infinite_word name || is_free_word name then None else Some (bound_from value rel (column_of (with_name name t) name))
bound_on_token t value rel _ = None

abbrev pub bound_more_token : Taken → ℕ → Token → Option Taken
bound_more_token t id (Compare AtMost) = Some (at_stage (BoundTo id AtMost None) t)
bound_more_token t id token = bound_token t token

-- the name of an integer column
abbrev pub integer_change : Bool → Column → Column
integer_change true c = made_binary c
integer_change false c = made_integer c

abbrev pub with_integer : Bool → ℕ × Taken → Taken
with_integer is_binary found =
    counted (with_column found.0 (integer_change is_binary) (record found.1 { count = found.1.count + added_rows found.0 found.1.columns }))

abbrev pub name_token : Taken → Bool → Token → Option Taken
name_token t is_binary (Name name) = Some (with_integer is_binary (column_of (with_name name t) name))
name_token t is_binary _ = None

-- the colon of a label
abbrev pub colon_token : Taken → Stage → Token → Option Taken
colon_token t stage Colon = Some (at_stage stage t)
colon_token t stage _ = None

-- a token, by where the text stands; none where it can't come there
abbrev pub with_token : Taken → Stage → Token → Bool → Option Taken
with_token t Before token is_labelled = None
with_token t (Goal is_fresh p) token is_labelled = goal_token t is_fresh p token is_labelled
with_token t GoalLabel token is_labelled = colon_token t (Goal false nothing_pending) token
with_token t (Rows is_fresh p) token is_labelled = row_token t is_fresh p token is_labelled
with_token t RowLabel token is_labelled = colon_token t (Rows false nothing_pending) token
with_token t (Right rel sign) token is_labelled = right_token t rel sign token
with_token t Bounds token is_labelled = bound_token t token
with_token t (BoundOf id) token is_labelled = bound_of_token t id token
with_token t (BoundTo id rel sign) token is_labelled = bound_to_token t id rel sign token
with_token t (BoundSign is_negative) token is_labelled = bound_sign_token t is_negative token
with_token t (BoundFrom value) token is_labelled = bound_from_token t value token
with_token t (BoundOn value rel) token is_labelled = bound_on_token t value rel token
with_token t (BoundMore id) token is_labelled = bound_more_token t id token
with_token t (Names is_binary) token is_labelled = name_token t is_binary token
with_token t Ended token is_labelled = None

-- what was taken, where the open section may end here
abbrev pub closed : Taken → Stage → Option Taken
closed t Before = Some t
closed t (Goal is_fresh p) = with_constant t p p.size
closed t (Rows is_fresh p) = if is_fresh then Some t else None
closed t Bounds = Some t
closed t (BoundMore id) = Some t
closed t (Names is_binary) = Some t
closed t _ = None

-- sections: the objective first, the constraints second, then the others in any order, each any number of times
abbrev pub is_objective : Section → Bool
is_objective section.Minimize = true
is_objective section.Maximize = true
is_objective _ = false

abbrev pub is_constraints : Section → Bool
is_constraints section.Constraints = true
is_constraints _ = false

abbrev pub is_later : Section → Bool
is_later s = not (is_objective s || is_constraints s)

abbrev pub is_due : Stage → Section → Bool
is_due Before s = is_objective s
is_due (Goal is_fresh p) s = is_constraints s
is_due _ s = is_later s

-- a section is opened
abbrev pub opened : Section → Taken → Taken
opened section.Minimize t = record t { stage = Goal true nothing_pending; sense = Min; goal = []; constant = None }
opened section.Maximize t = record t { stage = Goal true nothing_pending; sense = Max; goal = []; constant = None }
opened section.Constraints t = with_objective (objective_of t.goal (or_zero t.constant)) (at_stage (Rows true nothing_pending) t)
opened section.Bounds t = at_stage Bounds t
opened section.General t = at_stage (Names false) t
opened section.Binary t = at_stage (Names true) t
opened section.End t = at_stage Ended t

abbrev pub with_section : Taken → Section → Option Taken
with_section t s = and_then (closed t t.stage) (λ next. Some (note_if (not (is_due t.stage s)) cause.Section (opened s next)))

-- what an item adds; none where it can't come here
abbrev pub with_item : Taken → Item → Option Taken
with_item t (Opens s) = with_section t s
with_item t (Has token is_labelled) = with_token t t.stage token is_labelled

abbrev pub with_items : Taken → List Item → Option Taken
with_items t [] = Some t
with_items t (i ∷ is) = and_then (with_item t i) (λ next. with_items next is)

-- a line is taken where nothing was noted against it
abbrev pub settled_with : Taken → Option LpCause → Result Taken LpCause
settled_with t None = Ok t
settled_with t (Some c) = Err c

abbrev pub settled : Option Taken → Result Taken LpCause
settled None = Err cause.Form
settled (Some t) = settled_with t t.noted

-- what a line adds after the lines before it
unfoldable pub with_line : Taken → Line → Result Taken LpCause
with_line t line = if line.is_barred then Err cause.Unsupported else settled (with_items t line.items)

-- what a text spells: the program, the names of its columns, and the objective's constant and scale
pub record LpValue : Type 0 where
  pub milp : MilpValue
  pub names : List (List ℕ)
  pub constant : ℤ
  pub scale : ℕ

-- the text may end here
abbrev pub may_end : Stage → Bool
may_end (Rows is_fresh p) = is_fresh
may_end Bounds = true
may_end (BoundMore id) = true
may_end (Names is_binary) = true
may_end Ended = true
may_end _ = false

-- a column with a low bound of 0 is non-negative, and each other is free
abbrev pub is_zero : Option Fraction → Bool
is_zero None = false
is_zero (Some f) = nat_eq (unsigned_abs f.num) 0

abbrev pub column_kind : Bool → Kind
column_kind true = Int
column_kind false = Real

abbrev pub column_sign : Bool → ColumnSign
column_sign true = Nonneg
column_sign false = Free

abbrev pub col_of : Column → Col
col_of c = record { kind = column_kind c.is_integer; sign = column_sign (is_zero c.low) }

-- the row of a bound
abbrev pub end_row : ℕ → Rel → Option Fraction → List RowValue
end_row id rel None = []
end_row id rel (Some f) = record { terms = (id, f.den) ∷ []; rel = rel; right = f.num } ∷ []

abbrev pub low_row : ℕ → Option Fraction → List RowValue
low_row id low = if is_zero low then [] else end_row id AtLeast low

-- the rows of bounds, for each column in order, the first of which has this number
abbrev pub bound_rows : ℕ → List Column → List RowValue
bound_rows id [] = []
bound_rows id (c ∷ cs) = low_row id c.low ++ (end_row id AtMost c.high ++ bound_rows (suc id) cs)

-- the program that was taken
abbrev pub milp_of : Taken → MilpValue
milp_of t = record { cols = map col_of t.columns; rows = t.rows ++ bound_rows 0 t.columns; sense = t.sense; goal = t.objective.terms }

abbrev pub lp_of : Taken → LpValue
lp_of t = record { milp = milp_of t; names = t.names; constant = t.objective.constant; scale = t.objective.scale }

-- the program is within the limits
abbrev pub is_within : MilpValue → Bool
is_within m = nat_le (width m.cols) most_cols && nat_le (rows_height m.rows + bounds_height m.cols) most_rows

-- what the lines gave, or what is missing at the end
unfoldable pub program_after : Taken → Result LpValue LpCause
program_after t = do
  end ← refused_where (not (may_end t.stage) || is_empty t.names) cause.Form
  limit ← refused_where (not (is_within (milp_of t))) cause.Limit
  Ok (lp_of t)

-- the grammar of LP texts
abbrev pub lp_grammar : Grammar Line Taken LpValue LpCause
lp_grammar = record { start = nothing_taken; step = λ line t l. with_line t l; finish = program_after }
