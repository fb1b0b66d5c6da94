-- What the items of an LP text so far gave, and what columns, terms, rows and bounds add to it.
use Rattle.std.specs.Prelude.{ℕ, zero, suc, ◌+◌, ◌-◌, ◌*◌, ◌^◌, ℤ, pos, ◌==◌, take, neg_ℤ, Bool, true, false, not, ◌&&◌, ◌||◌, nat_le, nat_lt, List, [], ◌∷◌, ◌++◌, length, Option, None, Some, if◌then◌else◌, bytes_eq, codes}
use Rattle.std.specs.List.{list_any}
use Rattle.fractions.specs.Fraction.{Fraction}
use Rattle.lp_rows.specs.declared.kinds.Rel.{Rel}
use Rattle.lp_rows.specs.declared.kinds.Rel.TheVariants.{AtMost, AtLeast, Equal}
use Rattle.lp_rows.specs.declared.kinds.Sense.{Sense}
use Rattle.lp_rows.specs.declared.kinds.Sense.TheVariants.{Min}
use Rattle.lp_rows.specs.Rows.{RowValue, are_storable, is_storable}
use Rattle.text_grammar.specs.Digits.{value_of}
use Rattle.lp_grammar.specs.declared.cause.LpCause.{LpCause}
use Rattle.lp_grammar.specs.declared.cause.LpCause.TheVariants as cause
use Rattle.lp_grammar.specs.declared.stage.Column.{Column}
use Rattle.lp_grammar.specs.declared.stage.Pending.{Pending}
use Rattle.lp_grammar.specs.declared.stage.Stage.{Stage}
use Rattle.lp_grammar.specs.declared.stage.Stage.TheVariants.{Before, Goal, Rows}
use Rattle.lp_grammar.specs.Items.{is_word}
use Rattle.lp_grammar.specs.Programs.{most_cols, most_rows}
use Rattle.milps.specs.Building.{height_of}
use Rattle.lp_grammar.specs.Scaling.{lowest, whole, has_id, insert_term, scale_of, scaled, stored_terms}
use Rattle.lp_grammar.specs.Tokens.{Numeral}

-- the objective in whole numbers: its terms, its constant, and what they were multiplied by
pub record Objective : Type 0 where
  pub terms : List (ℕ × ℤ)
  pub constant : ℤ
  pub scale : ℕ

-- What the items so far gave: the stage, the objective's terms and constant, the columns with their names in the order of
-- their first appearance, the terms of the row that is read, the objective in whole numbers once it ended, the rows, how
-- many are counted, and the cause against the line so far that decides. Terms stand in the order of their ids.
pub record Taken : Type 0 where
  pub stage : Stage
  pub sense : Sense
  pub goal : List (ℕ × Fraction)
  pub constant : Option Fraction
  pub names : List (List ℕ)
  pub columns : List Column
  pub terms : List (ℕ × Fraction)
  pub objective : Objective
  pub rows : List RowValue
  pub count : ℕ
  pub noted : Option LpCause

-- no objective
abbrev pub no_objective : Objective
no_objective = record { terms = []; constant = pos 0; scale = 1 }

-- before the first line
abbrev pub nothing_taken : Taken
nothing_taken = record {
  stage = Before;
  sense = Min;
  goal = [];
  constant = None;
  names = [];
  columns = [];
  terms = [];
  objective = no_objective;
  rows = [];
  count = 0;
  noted = None;
}

-- of two causes that were noted, the one that decides
abbrev pub decides : LpCause → LpCause → LpCause
decides cause.Section other = cause.Section
decides cause.Number cause.Section = cause.Section
decides cause.Number other = cause.Number
decides c other = other

abbrev pub deciding : LpCause → Option LpCause → LpCause
deciding c None = c
deciding c (Some d) = decides c d

-- the cause is noted where the test is true; the line is still read to its end
abbrev pub note_if : Bool → LpCause → Taken → Taken
note_if test cause t = if test then record t { noted = Some (deciding cause t.noted) } else t

-- the text stands here now
abbrev pub at_stage : Stage → Taken → Taken
at_stage stage t = record t { stage = stage }

-- 10 to the exponent, where it has this sign
abbrev pub power_if : Bool → ℕ → ℕ
power_if test exponent = if test then 10 ^ exponent else 1

-- p and q of a number p / q, before it is reduced
abbrev pub over_part : Numeral → ℕ
over_part n = value_of (n.digits ++ n.places) * power_if (not n.exponent.is_negative) (value_of n.exponent.digits)

abbrev pub under_part : Numeral → ℕ
under_part n = 10 ^ length n.places * power_if n.exponent.is_negative (value_of n.exponent.digits)

-- the fraction if its parts are at most 10 ^ 15
abbrev pub if_small : Fraction → Option Fraction
if_small f = if is_storable f.num && is_storable f.den then Some f else None

-- the value of a number, if its exponent is at most 40 in magnitude and its lowest terms are small
abbrev pub numeral_value : Numeral → Option Fraction
numeral_value n = if nat_le (value_of n.exponent.digits) 40 then if_small (lowest (pos (over_part n)) (under_part n)) else None

-- how many digits, from the first on, stand more than 20 places before the point, where the exponent moves it to
abbrev pub far_places : Numeral → ℕ
far_places n =
    if n.exponent.is_negative then length n.digits - (20 + value_of n.exponent.digits) else (length n.digits + value_of n.exponent.digits) - 20

-- the number counts as infinite in a bound: it is at least 10 ^ 20, so that a digit other than 0 stands so far before the point
abbrev pub is_huge : Numeral → Bool
is_huge n = list_any (λ d. not (d == 48)) (take (far_places n) (n.digits ++ n.places))

-- a fraction with its sign turned where the test is true
abbrev pub turned_if : Bool → Fraction → Fraction
turned_if test f = if test then record { num = neg_ℤ f.num; den = f.den } else f

-- a value, 1 in place of one that is out of range
abbrev pub or_one : Option Fraction → Fraction
or_one None = whole (pos 1)
or_one (Some f) = f

abbrev pub is_out : Option Fraction → Bool
is_out None = true
is_out (Some f) = false

-- nothing stands before a name
abbrev pub nothing_pending : Pending
nothing_pending = record { is_open = false; is_negative = false; size = None }

-- the coefficient of a name: the number with its sign, or 1 with that sign
abbrev pub coefficient_with : Bool → Option Fraction → Fraction
coefficient_with is_negative None = turned_if is_negative (whole (pos 1))
coefficient_with is_negative (Some f) = f

abbrev pub coefficient_of : Pending → Fraction
coefficient_of p = coefficient_with p.is_negative p.size

-- one more sign, before a number
abbrev pub with_sign : Bool → Pending → Pending
with_sign is_negative p = record { is_open = true; is_negative = if is_negative then not p.is_negative else p.is_negative; size = None }

-- a number, which takes the sign before it
abbrev pub with_size : Fraction → Pending → Pending
with_size f p = record { is_open = true; is_negative = p.is_negative; size = Some (turned_if p.is_negative f) }

-- a column without a bound lies in 0 to infinity
abbrev pub new_column : Column
new_column = record { is_integer = false; low = Some (whole (pos 0)); high = None }

-- the number of the column with this name, where the first of these names has number k
abbrev pub place_from : ℕ → List ℕ → List (List ℕ) → Option ℕ
place_from k name [] = None
place_from k name (n ∷ ns) = if bytes_eq name n then Some k else place_from (suc k) name ns

-- the column with this name, which is a new one where there is none
abbrev pub with_new_column : List ℕ → Taken → Taken
with_new_column name t =
    note_if (not (nat_lt (length t.names) most_cols)) cause.Limit (record t { names = t.names ++ name ∷ []; columns = t.columns ++ new_column ∷ [] })

abbrev pub column_at : Taken → List ℕ → Option ℕ → ℕ × Taken
column_at t name (Some id) = (id, t)
column_at t name None = (length t.names, with_new_column name t)

abbrev pub column_of : Taken → List ℕ → ℕ × Taken
column_of t name = column_at t name (place_from 0 name t.names)

-- a name is taken
abbrev pub with_name : List ℕ → Taken → Taken
with_name name t = note_if (not (nat_le (length name) 255)) cause.Limit t

-- a term of the objective; none where its column stands twice
abbrev pub with_goal_term : ℕ × Taken → Fraction → Option Taken
with_goal_term found coefficient =
    if has_id found.0 found.1.goal then None
    else Some (record found.1 { stage = Goal false nothing_pending; goal = insert_term (found.0, coefficient) found.1.goal })

-- a term of a row; none where its column stands twice
abbrev pub with_row_term : ℕ × Taken → Fraction → Option Taken
with_row_term found coefficient =
    if has_id found.0 found.1.terms then None
    else Some (record found.1 { stage = Rows false nothing_pending; terms = insert_term (found.0, coefficient) found.1.terms })

-- the number before the next item of an objective is its constant: nothing where none stands, and none where it can't be
abbrev pub with_constant : Taken → Pending → Option Fraction → Option Taken
with_constant t p None = if p.is_open then None else Some t
with_constant t p (Some f) = if is_out t.constant then Some (record t { constant = Some f }) else None

-- the rows are counted
abbrev pub counted : Taken → Taken
counted t = note_if (not (nat_le t.count most_rows)) cause.Limit t

-- a row, if its numbers may be stored
abbrev pub if_narrow : RowValue → Option RowValue
if_narrow r = if are_storable r.terms && is_storable r.right then Some r else None

-- a row of these terms times the whole number k
abbrev pub row_by : Option ℕ → List (ℕ × Fraction) → Rel → Fraction → Option RowValue
row_by None terms rel right = None
row_by (Some k) terms rel right = if_narrow (record { terms = stored_terms k terms; rel = rel; right = scaled k right })

-- a row of these terms in the whole numbers that are stored, if they may be
unfoldable pub row_of : List (ℕ × Fraction) → Rel → Fraction → Option RowValue
row_of terms rel right = row_by (scale_of terms right) terms rel right

-- a row is appended
abbrev pub with_row : Option RowValue → Taken → Taken
with_row None t = note_if true cause.Number (record t { stage = Rows true nothing_pending; terms = [] })
with_row (Some r) t =
    counted (record t { stage = Rows true nothing_pending; terms = []; rows = t.rows ++ r ∷ []; count = t.count + height_of r.rel })

-- the objective's constant, 0 where none stands
abbrev pub or_zero : Option Fraction → Fraction
or_zero None = whole (pos 0)
or_zero (Some f) = f

-- an objective, if its numbers may be stored
abbrev pub if_narrow_objective : Objective → Option Objective
if_narrow_objective o = if are_storable o.terms && is_storable o.constant && is_storable (pos o.scale) then Some o else None

abbrev pub objective_by : Option ℕ → List (ℕ × Fraction) → Fraction → Option Objective
objective_by None terms constant = None
objective_by (Some k) terms constant = if_narrow_objective (record { terms = stored_terms k terms; constant = scaled k constant; scale = k })

-- an objective of these terms in whole numbers, if they may be stored
unfoldable pub objective_of : List (ℕ × Fraction) → Fraction → Option Objective
objective_of terms constant = objective_by (scale_of terms constant) terms constant

abbrev pub with_objective : Option Objective → Taken → Taken
with_objective None t = note_if true cause.Number t
with_objective (Some o) t = record t { objective = o }

-- the column with this number, and the columns with it changed
abbrev pub changed_at : ℕ → (Column → Column) → List Column → List Column
changed_at id change [] = []
changed_at zero change (c ∷ cs) = change c ∷ cs
changed_at (suc id) change (c ∷ cs) = c ∷ changed_at id change cs

abbrev pub with_column : ℕ → (Column → Column) → Taken → Taken
with_column id change t = record t { columns = changed_at id change t.columns }

-- x REL b: an infinite b removes the bound
abbrev pub bounded_by : Rel → Option Fraction → Column → Column
bounded_by AtMost b c = record c { high = b }
bounded_by AtLeast b c = record c { low = b }
bounded_by Equal b c = record c { low = b; high = b }

abbrev pub freed : Column → Column
freed c = record c { low = None; high = None }

abbrev pub made_integer : Column → Column
made_integer c = record c { is_integer = true }

-- two more rows are counted where the column with this number becomes integer
abbrev pub added_rows : ℕ → List Column → ℕ
added_rows id [] = 0
added_rows zero (c ∷ cs) = if c.is_integer then 0 else 2
added_rows (suc id) (c ∷ cs) = added_rows id cs

abbrev pub made_binary : Column → Column
made_binary c = record c { is_integer = true; low = Some (whole (pos 0)); high = Some (whole (pos 1)) }

-- b REL x as x REL b
abbrev pub turned : Rel → Rel
turned AtMost = AtLeast
turned AtLeast = AtMost
turned Equal = Equal

-- words of the bounds that are no names there
abbrev pub is_infinite_word : List ℕ → Bool
is_infinite_word name = is_word (codes "inf") name || is_word (codes "infinity") name

abbrev pub is_free_word : List ℕ → Bool
is_free_word name = is_word (codes "free") name
