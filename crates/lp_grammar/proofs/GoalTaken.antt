-- The lines of a goal are taken one after the other.
use Rattle.std.proofs.Common.{◌≡◌, ℕ, suc, ◌+◌, ◌^◌, ◌<◌, ◌≤◌, ℤ, pos, int_lt, Bool, Option, Some, true, false, not, if◌then◌else◌, List, [], ◌∷◌, ◌++◌, length, None, Result, Ok, refl, ap, sym, subst, ◌∙◌, append-nil, append_assoc, length-append, arith}
use Rattle.std.specs.Prelude.{unsigned_abs, nat_lt, nat_le}
use Rattle.std.specs.List.{list_all}
use Rattle.std.specs.Fmt.{decimal}
use Rattle.std.proofs.lemmas.Bool.Decides.{nat_tests}
use Rattle.fractions.specs.Fraction.{Fraction}
use Rattle.int_linear.specs.Terms.{coefficients}
use Rattle.lp_rows.specs.declared.columns.Col.{Col}
use Rattle.lp_rows.specs.declared.kinds.Sense.{Sense}
use Rattle.lp_rows.specs.Rows.{RowValue, is_storable}
use Rattle.lp_grammar.specs.declared.cause.LpCause.{LpCause}
use Rattle.lp_grammar.specs.Canonical.{col_name, term_line, goal_lines}
use Rattle.lp_grammar.specs.Laws.{col_names}
use Rattle.lp_grammar.specs.Programs.{most_cols}
use Rattle.lp_grammar.specs.Reading.{with_line, and_then, settled}
use Rattle.lp_grammar.specs.Scaling.{whole, has_id, insert_term}
use Rattle.lp_grammar.specs.declared.cause.LpCause.TheVariants as cause
use Rattle.lp_grammar.specs.declared.stage.Pending.{Pending}
use Rattle.lp_grammar.specs.declared.stage.Stage.{Stage}
use Rattle.lp_grammar.specs.declared.stage.Stage.TheVariants.{Goal}
use Rattle.lp_grammar.specs.declared.stage.Column.{Column}
use Rattle.lp_grammar.specs.Taking.{Objective, Taken, no_objective, note_if, nothing_pending, coefficient_of, with_new_column, with_goal_term, new_column, place_from, numeral_value, turned_if}
use Rattle.lp_grammar.specs.Tokens.{Token, Name, Number, Sign}
use Rattle.lp_grammar.proofs.Chains.{line_before, Chain, taken_as, chain_to}
use Rattle.lp_grammar.proofs.Columns.{IsNumbered, place_new, numbered_more}
use Rattle.lp_grammar.proofs.Dense.{wholes, dense, insert_last, below_pushed, absent}
use Rattle.lp_grammar.proofs.Lexing.{plain}
use Rattle.lp_grammar.proofs.Values.{short_number, value_again, turned_again}
use Rattle.lp_grammar.proofs.Words.{name_short, term_tokens}

-- what stays as it is while rows and columns are taken
pub record Fixed : Type 0 where
  pub sense : Sense
  pub goal : List (ℕ × Fraction)
  pub names : List (List ℕ)
  pub objective : Objective

-- what was taken with nothing against it
abbrev pub in_row : List (ℕ × Fraction) → Stage → Fixed → ℕ → List Column → List RowValue → Taken
in_row terms stage f n columns rows = record {
  stage = stage;
  sense = f.sense;
  goal = f.goal;
  constant = None;
  names = f.names;
  columns = columns;
  terms = terms;
  objective = f.objective;
  rows = rows;
  count = n;
  noted = None;
}

abbrev pub state : Stage → Fixed → ℕ → List Column → List RowValue → Taken
state stage f n columns rows = in_row [] stage f n columns rows

-- what was taken of the objective
abbrev pub goal_state : Stage → Sense → List (ℕ × Fraction) → List (List ℕ) → List Column → Taken
goal_state stage sense goal names columns = record {
  stage = stage;
  sense = sense;
  goal = goal;
  constant = None;
  names = names;
  columns = columns;
  terms = [];
  objective = no_objective;
  rows = [];
  count = 0;
  noted = None;
}

-- the tokens of a term
abbrev pub term_pieces : ℕ → ℤ → List Token
term_pieces j c = Sign (int_lt c (pos 0)) ∷ Number (plain (decimal (unsigned_abs c))) ∷ Name (col_name j) ∷ []

abbrev ok_state : List (ℕ × Fraction) → List (List ℕ) → List Column → Sense → Result Taken LpCause
ok_state goal names columns sense = Ok (goal_state (Goal false nothing_pending) sense goal names columns)

-- what an item of a line leaves is what the line leaves
abbrev ended : Option Taken → Result Taken LpCause
ended taken = settled (and_then taken (λ next. Some next))

-- the name of a new column, with the number before it
name_taken : (p : Pending) (sense : Sense) (goal : List (ℕ × Fraction)) (names : List (List ℕ)) (columns : List Column) (name : List ℕ) → nat_lt (length names) most_cols ≡ true → has_id (length names) goal ≡ false
    → ended (with_goal_term (length names, with_new_column name (goal_state (Goal false p) sense goal names columns)) (coefficient_of p))
    ≡ ok_state (insert_term (length names, coefficient_of p) goal) (names ++ name ∷ []) (columns ++ new_column ∷ []) sense
name_taken p sense goal names columns name room none =
    let more : Taken = goal_state (Goal false p) sense goal (names ++ name ∷ []) (columns ++ new_column ∷ []) in
    let next : Taken = goal_state (Goal false nothing_pending) sense (insert_term (length names, coefficient_of p) goal) (names ++ name ∷ []) (columns ++ new_column ∷ []) in
    ap (λ (b : Bool). ended (with_goal_term (length names, note_if (not b) cause.Limit more) (coefficient_of p))) room
    ∙ ap (λ (b : Bool). ended (if b then None else Some next)) none

goal_with : (sense : Sense) (goal : List (ℕ × Fraction)) (names : List (List ℕ)) (columns : List Column) (b : Bool) (ds : List ℕ) (f : Fraction) (name : List ℕ) → numeral_value (plain ds) ≡ Some f
    → nat_le (length name) 255 ≡ true → place_from 0 name names ≡ None → nat_lt (length names) most_cols ≡ true → has_id (length names) goal ≡ false
    → with_line (goal_state (Goal false nothing_pending) sense goal names columns) (line_before (Sign b ∷ Number (plain ds) ∷ Name name ∷ []) false)
    ≡ ok_state (insert_term (length names, turned_if b f) goal) (names ++ name ∷ []) (columns ++ new_column ∷ []) sense
unfolding with_line
goal_with sense goal names columns true ds f name value short new room none = rw (value, short, new) (name_taken (record { is_open = true; is_negative = true; size = Some (turned_if true f) }) sense goal names columns name room none)
goal_with sense goal names columns false ds f name value short new room none = rw (value, short, new) (name_taken (record { is_open = true; is_negative = false; size = Some (turned_if false f) }) sense goal names columns name room none)

pub goal_term : (sense : Sense) (goal : List (ℕ × Fraction)) (names : List (List ℕ)) (columns : List Column) (j : ℕ) (c : ℤ) → j < 10 ^ 64 → is_storable c ≡ true
    → place_from 0 (col_name j) names ≡ None → nat_lt (length names) most_cols ≡ true → list_all (λ t. nat_lt t.0 (length names)) goal ≡ true
    → with_line (goal_state (Goal false nothing_pending) sense goal names columns) (line_before (term_pieces j c) false)
    ≡ Ok (goal_state (Goal false nothing_pending) sense (goal ++ (length names, whole c) ∷ []) (names ++ col_name j ∷ []) (columns ++ new_column ∷ []))
goal_term sense goal names columns j c short small new room below =
    goal_with sense goal names columns (int_lt c (pos 0)) (decimal (unsigned_abs c)) (whole (pos (unsigned_abs c))) (col_name j) (value_again c small) (name_short j short) new room (absent (length names) goal below)
    ∙ ap (λ (f : Fraction). ok_state (insert_term (length names, f) goal) (names ++ col_name j ∷ []) (columns ++ new_column ∷ []) sense) (turned_again c)
    ∙ ap (λ (l : List (ℕ × Fraction)). ok_state l (names ++ col_name j ∷ []) (columns ++ new_column ∷ []) sense) (insert_last (length names, whole c) goal below)

-- the columns of a program before their bounds
abbrev pub new_columns : List Col → List Column
new_columns [] = []
new_columns (c ∷ cs) = new_column ∷ new_columns cs

has_room : (n : ℕ) → n < most_cols → nat_lt n most_cols ≡ true
has_room n lt = grind (arith, nat_tests)

-- a line for each column
pub goal_taken : (sense : Sense) (k : ℕ) (cs : List Col) (g : List (ℕ × ℤ)) (goal : List (ℕ × Fraction)) (names : List (List ℕ)) (columns : List Column)
    → IsNumbered 0 names → length names ≡ k → k + length cs ≤ most_cols → list_all (λ t. nat_lt t.0 k) goal ≡ true → ((j : ℕ) → is_storable (coefficients g j) ≡ true)
    → Chain (goal_state (Goal false nothing_pending) sense goal names columns) (goal_lines k cs g)
    (goal_state (Goal false nothing_pending) sense (goal ++ wholes (dense k cs g)) (names ++ col_names k cs) (columns ++ new_columns cs))
goal_taken sense k [] g goal names columns is e room below small =
    ap (λ (x : List (ℕ × Fraction)). goal_state (Goal false nothing_pending) sense x names columns) (sym (append-nil goal))
    ∙ ap (λ (x : List (List ℕ)). goal_state (Goal false nothing_pending) sense (goal ++ []) x columns) (sym (append-nil names))
    ∙ ap (λ (x : List Column). goal_state (Goal false nothing_pending) sense (goal ++ []) (names ++ []) x) (sym (append-nil columns))
goal_taken sense k (c ∷ cs) g goal names columns is e room below small =
    let z : ℤ = coefficients g k in
    let t : ℕ × Fraction = (k, whole z) in
    let name : List ℕ = col_name k in
    let goal' : List (ℕ × Fraction) = goal ++ t ∷ [] in
    let names' : List (List ℕ) = names ++ name ∷ [] in
    let columns' : List Column = columns ++ new_column ∷ [] in
    let next : Taken = goal_state (Goal false nothing_pending) sense goal' names' columns' in
    let short : k < 10 ^ 64 = omega (arith, room) in
    let adds : with_line (goal_state (Goal false nothing_pending) sense goal names columns) (line_before (term_pieces k z) false) ≡ Ok next =
    goal_term sense goal names columns k z short (small k) (place_new 0 k names is (omega (arith, e)) short) (has_room (length names) (omega (arith, e, room)))
    (ap (λ (n : ℕ). list_all (λ t. nat_lt t.0 n) goal) e ∙ below)
    ∙ ap (λ (n : ℕ). ok_state (goal ++ (n, whole z) ∷ []) names' columns' sense) e in
    let numbered : IsNumbered 0 names' = subst (λ (n : ℕ). IsNumbered 0 (names ++ col_name n ∷ [])) (omega (arith, e)) (numbered_more 0 names is) in
    let long : length names' ≡ suc k = omega (arith, length-append names (name ∷ []), e) in
    let rest : Chain next (goal_lines (suc k) cs g) (goal_state (Goal false nothing_pending) sense (goal' ++ wholes (dense (suc k) cs g)) (names' ++ col_names (suc k) cs) (columns' ++ new_columns cs)) =
    goal_taken sense (suc k) cs g goal' names' columns' numbered long (omega (arith, room)) (below_pushed k goal t (omega arith) below) small in
    let whole_rest = chain_to next _ (goal_state (Goal false nothing_pending) sense (goal ++ (t ∷ wholes (dense (suc k) cs g))) (names ++ (name ∷ col_names (suc k) cs)) (columns ++ (new_column ∷ new_columns cs))) (goal_lines (suc k) cs g)
    (ap (λ (x : List (ℕ × Fraction)). goal_state (Goal false nothing_pending) sense x (names' ++ col_names (suc k) cs) (columns' ++ new_columns cs)) (append_assoc goal (t ∷ []) (wholes (dense (suc k) cs g)))
    ∙ ap (λ (x : List (List ℕ)). goal_state (Goal false nothing_pending) sense (goal ++ (t ∷ wholes (dense (suc k) cs g))) x (columns' ++ new_columns cs)) (append_assoc names (name ∷ []) (col_names (suc k) cs))
    ∙ ap (λ (x : List Column). goal_state (Goal false nothing_pending) sense (goal ++ (t ∷ wholes (dense (suc k) cs g))) (names ++ (name ∷ col_names (suc k) cs)) x) (append_assoc columns (new_column ∷ []) (new_columns cs))) rest in
    (next, taken_as _ next (term_line k z) (term_pieces k z) (term_tokens k z short (short_number z (small k))) (λ after. refl) adds, whole_rest)
