-- The program that is built of what was taken.
use Rattle.std.proofs.Common.{ℤ, ◌≡◌, ◌∙◌, ap, sym, subst, ℕ, true, false, if◌then◌else◌, List, length, map, Some, None, arith}
use Rattle.std.proofs.lemmas.Bool.{cond-true, cond-false}
use Rattle.std.proofs.lemmas.List.{length-map}
use Rattle.lp_rows.specs.Rows.{RowValue}
use Rattle.milps.specs.Milps.{MilpValue, new_milp}
use Rattle.lp_grammar.specs.declared.stage.Column.{Column}
use Rattle.lp_grammar.specs.Programs.{AreStored, AreStoredRows}
use Rattle.lp_grammar.specs.Reading.{col_of, bound_rows, milp_of, is_within}
use Rattle.lp_grammar.specs.Taking.{Taken}
use Rattle.lp_parts.specs.Grown.{with_cols, with_rows}
use Rattle.lp_reader.specs.Kept.{IsKept}
use Rattle.lp_parts.proofs.Grown.{past_more, rows_both}

-- the columns, with the goal, with the rows
abbrev pub with_goal : Taken → MilpValue → MilpValue
with_goal t m = record m { sense = t.sense; goal = t.objective.terms }

abbrev pub cols_of : Taken → MilpValue
cols_of t = with_cols new_milp (map col_of t.columns)

pub as_many : (most : ℕ) (t : Taken) (m : MilpValue) → IsKept most t → m ≡ cols_of t → length t.names ≡ length m.cols
as_many most t m k e = k.1.named ∙ sym (length-map t.columns col_of) ∙ ap (λ (x : MilpValue). length x.cols) (sym e)

pub goal_stored : (most : ℕ) (t : Taken) (m : MilpValue) → IsKept most t → m ≡ cols_of t → AreStored (length m.cols) t.objective.terms
goal_stored most t m k e = subst (λ (n : ℕ). AreStored n t.objective.terms) (as_many most t m k e) k.1.objective

pub rows_stored : (most : ℕ) (t : Taken) (m n : MilpValue) → IsKept most t → m ≡ cols_of t → n ≡ with_goal t m → AreStoredRows (length n.cols) t.rows
rows_stored most t m n k e f = subst (λ (x : ℕ). AreStoredRows x t.rows) (as_many most t m k e ∙ ap (λ (x : MilpValue). length x.cols) (sym f)) k.1.rows

-- all of it is the program, and what passes a limit on the way passes it
pub all_same : (t : Taken) (m n o : MilpValue) → m ≡ cols_of t → n ≡ with_goal t m → o ≡ with_rows n t.rows → with_rows o (bound_rows 0 t.columns) ≡ milp_of t
all_same t m n o e f g =
    ap (λ (x : MilpValue). with_rows x (bound_rows 0 t.columns)) (g ∙ ap (λ (x : MilpValue). with_rows x t.rows) (f ∙ ap (with_goal t) e))

pub cols_past : (t : Taken) → is_within (cols_of t) ≡ false → is_within (milp_of t) ≡ false
cols_past t e = past_more (cols_of t) (milp_of t) e (omega arith) (omega arith)

pub rows_past : (t : Taken) (m n : MilpValue) → m ≡ cols_of t → n ≡ with_goal t m → is_within (with_rows n t.rows) ≡ false → is_within (milp_of t) ≡ false
rows_past t m n e f p =
    past_more (with_rows (with_goal t (cols_of t)) t.rows) (milp_of t) (ap (λ (x : MilpValue). is_within (with_rows x t.rows)) (sym (f ∙ ap (with_goal t) e)) ∙ p) (omega arith)
    (omega (arith, rows_both t.rows (bound_rows 0 t.columns)))

pub none_built : (m : MilpValue) → is_within m ≡ false → None ≡ (if is_within m then Some m else None)
none_built m e = sym (cond-false (is_within m) (Some m) None e)

pub some_built : (m n : MilpValue) → m ≡ n → is_within n ≡ true → Some m ≡ (if is_within n then Some n else None)
some_built m n e w = ap (λ (x : MilpValue). Some x) e ∙ sym (cond-true (is_within n) (Some n) None w)

-- what the calls leave, as what was taken
pub cols_told : (t : Taken) (start m : MilpValue) (columns : List Column) → start ≡ new_milp → columns ≡ t.columns → m ≡ with_cols start (map col_of columns) → m ≡ cols_of t
cols_told t start m columns e f g = g ∙ ap (λ (x : MilpValue). with_cols x (map col_of columns)) e ∙ ap (λ (l : List Column). with_cols new_milp (map col_of l)) f

pub goal_told : (t : Taken) (m n : MilpValue) (terms : List (ℕ × ℤ)) → terms ≡ t.objective.terms → n ≡ record m { sense = t.sense; goal = terms } → n ≡ with_goal t m
goal_told t m n terms e f = f ∙ ap (λ (l : List (ℕ × ℤ)). record m { sense = t.sense; goal = l }) e

pub rows_told : (t : Taken) (n o : MilpValue) (rows : List RowValue) → rows ≡ t.rows → o ≡ with_rows n rows → o ≡ with_rows n t.rows
rows_told t n o rows e f = f ∙ ap (with_rows n) e

pub all_told : (t : Taken) (m n o all : MilpValue) (columns : List Column) → m ≡ cols_of t → n ≡ with_goal t m → o ≡ with_rows n t.rows → columns ≡ t.columns → all ≡ with_rows o (bound_rows 0 columns) → all ≡ milp_of t
all_told t m n o all columns e f g h is = is ∙ ap (λ (l : List Column). with_rows o (bound_rows 0 l)) h ∙ all_same t m n o e f g
