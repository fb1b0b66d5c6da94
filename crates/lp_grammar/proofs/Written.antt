-- The text of a program spells that program.
use Rattle.std.proofs.Common.{None, Option, if◌then◌else◌, ◌≡◌, ℕ, suc, ◌+◌, ◌<◌, ◌≤◌, ℤ, pos, Bool, true, false, not, ◌==◌, ◌&&◌, ◌||◌, List, [], ◌∷◌, ◌++◌, length, map, codes, Some, Ok, refl, ap, sym, subst, ◌∙◌, append-nil, append_assoc, arith}
use Rattle.std.specs.Prelude.{nat_le, nat_lt}
use Rattle.std.specs.List.{list_all}
use Rattle.std.proofs.lemmas.Bool.Decides.{nat_tests}
use Rattle.fractions.specs.Fraction.{Fraction}
use Rattle.int_linear.specs.Terms.{coefficients}
use Rattle.lp_rows.specs.declared.columns.Col.{Col}
use Rattle.lp_rows.specs.declared.columns.Sign.{Sign}
use Rattle.lp_rows.specs.declared.columns.Sign.TheVariants as sign
use Rattle.lp_rows.specs.declared.kinds.Kind.{Kind}
use Rattle.lp_rows.specs.declared.kinds.Kind.TheVariants as kind
use Rattle.lp_rows.specs.declared.kinds.Sense.{Sense}
use Rattle.lp_rows.specs.declared.kinds.Sense.TheVariants.{Min, Max}
use Rattle.lp_rows.specs.declared.kinds.Rel.TheVariants.{AtMost}
use Rattle.lp_rows.specs.Holding.{ids_below}
use Rattle.lp_rows.specs.Rows.{RowValue, are_storable, is_storable}
use Rattle.text_grammar.specs.Grammars.{LeadsBy}
use Rattle.text_grammar.specs.Lexers.{tokens_by}
use Rattle.text_grammar.specs.Lines.{lines_of}
use Rattle.text_grammar.specs.Printing.{text_of}
use Rattle.text_grammar.specs.Outcomes.{◌>>=◌, refused_where}
use Rattle.text_grammar.proofs.Bools.{both, and_true}
use Rattle.text_grammar.proofs.PrintingLemmas.{is_written, are_written, lines_again, text_appended}
use Rattle.lp_grammar.specs.declared.cause.LpCause.TheVariants as cause
use Rattle.lp_grammar.specs.Canonical.{row_name, sense_word, label_line, term_line, term_lines, some_terms, right_line, row_lines, goal_lines, free_line, free_lines, if_free, integer_line, integer_lines, if_integer, section_lines, canonical_lines, lp_text_of}
use Rattle.lp_grammar.specs.Items.{colon_next, lp_lines}
use Rattle.lp_grammar.specs.Laws.{col_names, written_program, WrittenSpells, is_comment, are_comments, CommentedSpells}
use Rattle.lp_grammar.specs.Programs.{IsMilp, AreStored, AreStoredRows, most_cols, most_rows}
use Rattle.milps.specs.Milps.{MilpValue}
use Rattle.milps.specs.Building.{width_of, width, height_of, rows_height, bounds_height}
use Rattle.lp_grammar.specs.Reading.{LpValue, with_line, program_after, lp_grammar, is_empty, col_of, bound_rows, end_row, low_row, milp_of, lp_of, is_within, settled_with}
use Rattle.lp_grammar.specs.Scaling.{whole, scaled}
use Rattle.lp_grammar.specs.declared.stage.Stage.TheVariants.{Goal, Rows, Ended}
use Rattle.lp_grammar.specs.declared.stage.Column.{Column}
use Rattle.lp_grammar.specs.Taking.{Objective, Taken, nothing_taken, nothing_pending, objective_by, if_narrow_objective, objective_of}
use Rattle.lp_grammar.specs.Tokens.{Token, Name, Colon, token_of, tokens_of}
use Rattle.lp_grammar.proofs.Chains.{line_before, Chain, taken_as, chained, chain_leads, chain_to}
use Rattle.lp_grammar.proofs.Columns.{IsNumbered}
use Rattle.lp_grammar.proofs.Dense.{wholes, dense, dense_kept, coefficient_small, scale_one, stored_again, scaled_whole}
use Rattle.lp_grammar.proofs.EndsTaken.{bounded, of_kind, final_columns, names_numbered, names_length, stage_at, end_opened, ends_taken}
use Rattle.lp_grammar.proofs.GoalTaken.{Fixed, in_row, state, goal_state, new_columns, goal_taken}
use Rattle.lp_grammar.proofs.RowsTaken.{some_small, some_below, some_count, rows_taken}
use Rattle.lp_grammar.proofs.Values.{short_number}
use Rattle.lp_grammar.proofs.Words.{IsPlain, plain_inline, term_plain, row_label_plain, right_plain, free_plain, integer_plain}

-- the objective is opened
opened_by : (s : Sense) → with_line nothing_taken (line_before (Name (sense_word s) ∷ []) false) ≡ Ok (goal_state (Goal true nothing_pending) s [] [] [])
unfolding with_line
opened_by Min = refl
opened_by Max = refl

sense_tokens : (s : Sense) → tokens_of (sense_word s) ≡ Name (sense_word s) ∷ []
unfolding tokens_by token_of
sense_tokens Min = refl
sense_tokens Max = refl

label_tokens : tokens_of (label_line (codes "obj")) ≡ Name (codes "obj") ∷ Colon ∷ []
unfolding tokens_by token_of
label_tokens = refl

labelled : (s : Sense) → with_line (goal_state (Goal true nothing_pending) s [] [] []) (line_before (Name (codes "obj") ∷ Colon ∷ []) false) ≡ Ok (goal_state (Goal false nothing_pending) s [] [] [])
unfolding with_line
labelled s = refl

head_taken : (s : Sense) → Chain nothing_taken (sense_word s ∷ label_line (codes "obj") ∷ []) (goal_state (Goal false nothing_pending) s [] [] [])
head_taken s =
    let opened : Taken = goal_state (Goal true nothing_pending) s [] [] [] in
    let next : Taken = goal_state (Goal false nothing_pending) s [] [] [] in (
      opened,
      taken_as _ opened (sense_word s) (Name (sense_word s) ∷ []) (sense_tokens s) (λ after. refl) (opened_by s),
      (next, taken_as opened next (label_line (codes "obj")) (Name (codes "obj") ∷ Colon ∷ []) label_tokens (λ after. refl) (labelled s), refl),
    )

-- the objective of a program in whole numbers
abbrev objective_again : MilpValue → Objective
objective_again m = record { terms = m.goal; constant = pos 0; scale = 1 }

-- what is fixed behind the objective of a program
abbrev fixed : MilpValue → Fixed
fixed m = record { sense = m.sense; goal = wholes (dense 0 m.cols m.goal); names = col_names 0 m.cols; objective = objective_again m }

-- what is taken of a program
abbrev at_end : MilpValue → Taken
at_end m = state Ended (fixed m) (rows_height m.rows + bounds_height m.cols) (final_columns m.cols) m.rows

-- the objective is scaled to the goal
goal_again : (m : MilpValue) → AreStored (length m.cols) m.goal → objective_of (wholes (dense 0 m.cols m.goal)) (whole (pos 0)) ≡ Some (objective_again m)
unfolding objective_of
goal_again m stored =
    let ts : List (ℕ × ℤ) = dense 0 m.cols m.goal in
    let with_terms : List (ℕ × ℤ) → Option Objective = λ l. if_narrow_objective (record { terms = l; constant = scaled 1 (whole (pos 0)); scale = 1 }) in
    let with_constant : ℤ → Option Objective = λ z. if_narrow_objective (record { terms = m.goal; constant = z; scale = 1 }) in
    ap (λ (k : Option ℕ). objective_by k (wholes ts) (whole (pos 0))) (scale_one ts (pos 0))
    ∙ ap with_terms (stored_again ts ∙ dense_kept 0 m.cols m.goal stored.ascend stored.none (ap (λ (n : ℕ). ids_below n m.goal) (omega arith) ∙ stored.below))
    ∙ ap with_constant (scaled_whole (pos 0))
    ∙ ap (λ (b : Bool). if b && true && true then Some (objective_again m) else None) stored.small

constraints_tokens : tokens_of (codes "Subject To") ≡ Name (codes "Subject") ∷ Name (codes "To") ∷ []
unfolding tokens_by token_of
constraints_tokens = refl

constraints_with : (s : Sense) (goal : List (ℕ × Fraction)) (names : List (List ℕ)) (columns : List Column) (o : Objective) → objective_of goal (whole (pos 0)) ≡ Some o
    → with_line (goal_state (Goal false nothing_pending) s goal names columns) (line_before (Name (codes "Subject") ∷ Name (codes "To") ∷ []) false)
    ≡ Ok (in_row [] (Rows true nothing_pending) (record { sense = s; goal = goal; names = names; objective = o }) 0 columns [])
unfolding with_line
constraints_with s goal names columns o is = rw is refl

-- the columns that were taken are those of the program, and no bound makes a row
col_again : (d : Kind) (s : Sign) → col_of (of_kind d (bounded s)) ≡ record { kind = d; sign = s }
col_again kind.Real sign.Free = refl
col_again kind.Real sign.Nonneg = refl
col_again kind.Int sign.Free = refl
col_again kind.Int sign.Nonneg = refl

cols_again : (cs : List Col) → map col_of (final_columns cs) ≡ cs
cols_again [] = refl
cols_again (c ∷ cs) = ap (λ (x : Col). x ∷ map col_of (final_columns cs)) (col_again c.kind c.sign) ∙ ap (λ (l : List Col). c ∷ l) (cols_again cs)

no_row : (k : ℕ) (d : Kind) (s : Sign) (rows : List RowValue) → low_row k (of_kind d (bounded s)).low ++ (end_row k AtMost (of_kind d (bounded s)).high ++ rows) ≡ rows
no_row k kind.Real sign.Free rows = refl
no_row k kind.Real sign.Nonneg rows = refl
no_row k kind.Int sign.Free rows = refl
no_row k kind.Int sign.Nonneg rows = refl

no_rows : (k : ℕ) (cs : List Col) → bound_rows k (final_columns cs) ≡ []
no_rows k [] = refl
no_rows k (c ∷ cs) = no_row k c.kind c.sign (bound_rows (suc k) (final_columns cs)) ∙ no_rows (suc k) cs

-- what was taken is the program
milp_again : (m : MilpValue) → milp_of (at_end m) ≡ m
milp_again m =
    let cols : List Col → MilpValue = λ x. record { cols = x; rows = m.rows ++ bound_rows 0 (final_columns m.cols); sense = m.sense; goal = m.goal } in
    let rows : List RowValue → MilpValue = λ x. record { cols = m.cols; rows = x; sense = m.sense; goal = m.goal } in
    ap cols (cols_again m.cols) ∙ ap rows (ap (λ (l : List RowValue). m.rows ++ l) (no_rows 0 m.cols) ∙ append-nil m.rows)

lp_again : (m : MilpValue) → lp_of (at_end m) ≡ written_program m
lp_again m =
    let milp : MilpValue → LpValue = λ x. record { milp = x; names = col_names 0 m.cols; constant = pos 0; scale = 1 } in
    ap milp (milp_again m)

some_columns : (cs : List Col) → 0 < length cs → is_empty (col_names 0 cs) ≡ false
some_columns [] some = absurd (omega (arith, some))
some_columns (c ∷ cs) some = refl

within : (m : MilpValue) → IsMilp m → is_within m ≡ true
within m is = and_true _ _ (few (width m.cols) most_cols is.cols_within) (few (rows_height m.rows + bounds_height m.cols) most_rows is.rows_within)
  where
    few : (n most : ℕ) → n ≤ most → nat_le n most ≡ true
    few n most h = grind (arith, nat_tests)

finished : (m : MilpValue) → IsMilp m → program_after (at_end m) ≡ Ok (written_program m)
unfolding program_after
finished m is = go _ _ _ (some_columns m.cols is.some) (ap is_within (milp_again m) ∙ within m is) (lp_again m)
  where
    go : (e w : Bool) (p : LpValue) → e ≡ false → w ≡ true → p ≡ written_program m → (refused_where (not true || e) cause.Form >>= (λ _. refused_where (not w) cause.Limit >>= (λ _. Ok p))) ≡ Ok (written_program m)
    go true w p a b c = absurd (cc a)
    go false true p a b c = ap (λ (x : LpValue). Ok x) c
    go false false p a b c = absurd (cc b)

-- each line is plain
pub cols_at_least : (cs : List Col) → length cs ≤ width cs
cols_at_least [] = omega arith
cols_at_least (c ∷ cs) = go c.sign (cols_at_least cs)
  where
    go : (s : Sign) → length cs ≤ width cs → suc (length cs) ≤ width_of s + width cs
    go sign.Free le = omega (arith, le)
    go sign.Nonneg le = omega (arith, le)

-- the lines of a program lead to it
lines_lead : (m : MilpValue) → IsMilp m → Chain nothing_taken (canonical_lines m) (at_end m)
lines_lead m is =
    let s : Sense = m.sense in
    let goal : List (ℕ × Fraction) = wholes (dense 0 m.cols m.goal) in
    let names : List (List ℕ) = col_names 0 m.cols in
    let columns : List Column = new_columns m.cols in
    let few : length m.cols ≤ most_cols = omega (arith, cols_at_least m.cols, is.cols_within) in
    let long : length names ≡ length m.cols = names_length 0 m.cols in
    let numbered : IsNumbered 0 names = names_numbered 0 m.cols in
    let a : Taken = goal_state (Goal false nothing_pending) s [] [] [] in
    let b : Taken = goal_state (Goal false nothing_pending) s goal names columns in
    let c : Taken = in_row [] (Rows true nothing_pending) (fixed m) 0 columns [] in
    let d : Taken = in_row [] (Rows true nothing_pending) (fixed m) (rows_height m.rows) columns m.rows in
    let end : Taken = at_end m in
    let goals = goal_taken s 0 m.cols m.goal [] [] [] tt refl (omega (arith, few)) refl (λ j. coefficient_small 0 m.goal j is.goal.ascend is.goal.small) in
    let constraints = taken_as b c (codes "Subject To") (Name (codes "Subject") ∷ Name (codes "To") ∷ []) constraints_tokens (λ after. refl) (constraints_with s goal names columns (objective_again m) (goal_again m is.goal)) in
    let rows : Chain c (row_lines 0 m.rows) d =
    chain_to c _ d (row_lines 0 m.rows) (ap (λ (n : ℕ). in_row [] (Rows true nothing_pending) (fixed m) n columns m.rows) (omega arith))
    (rows_taken (fixed m) 0 columns [] 0 m.rows numbered (omega (arith, long, is.some)) (omega (arith, long, few)) (subst (λ (n : ℕ). AreStoredRows n m.rows) (sym long) is.rows)
    (omega (arith, is.rows_within)) (omega (arith, is.rows_within))) in
    let ends = ends_taken (fixed m) (rows_height m.rows) m.rows m.cols numbered (omega (arith, long, few)) (omega (arith, long)) is.rows_within in
    let last : Chain (state (stage_at ends.0) (fixed m) (rows_height m.rows + bounds_height m.cols) (final_columns m.cols) m.rows) (codes "End" ∷ []) end =
    (end, end_opened (fixed m) (rows_height m.rows + bounds_height m.cols) (final_columns m.cols) m.rows ends.0, refl) in
    let bounds : List (List ℕ) = section_lines (codes "Bounds") (free_lines 0 m.cols) in
    let integers : List (List ℕ) = section_lines (codes "Generals") (integer_lines 0 m.cols) in
    let tail : Chain d (bounds ++ (integers ++ codes "End" ∷ [])) end =
    subst (λ (l : List (List ℕ)). Chain d l end) (append_assoc bounds integers (codes "End" ∷ [])) (chained d _ end (bounds ++ integers) (codes "End" ∷ []) ends.1 last) in
    chained nothing_taken a end (sense_word s ∷ label_line (codes "obj") ∷ []) (goal_lines 0 m.cols m.goal ++ codes "Subject To" ∷ (row_lines 0 m.rows ++ (bounds ++ (integers ++ codes "End" ∷ []))))
    (head_taken s)
    (chained a b end (goal_lines 0 m.cols m.goal) (codes "Subject To" ∷ (row_lines 0 m.rows ++ (bounds ++ (integers ++ codes "End" ∷ [])))) goals
    (c, constraints, chained c d end (row_lines 0 m.rows) (bounds ++ (integers ++ codes "End" ∷ [])) rows tail))

-- the lines are cut again where they were put together
inline_both : (xs ys : List (List ℕ)) → are_written xs ≡ true → are_written ys ≡ true → are_written (xs ++ ys) ≡ true
inline_both [] ys p q = q
inline_both (x ∷ xs) ys p q = let h = both (list_all is_written x) (are_written xs) p in and_true (list_all is_written x) (are_written (xs ++ ys)) h.0 (inline_both xs ys h.1 q)

inline_more : (line : List ℕ) (lines : List (List ℕ)) → IsPlain line → are_written lines ≡ true → are_written (line ∷ lines) ≡ true
inline_more line lines p q = and_true (list_all is_written line) (are_written lines) (plain_inline line p) q

goal_inline : (k : ℕ) (cs : List Col) (g : List (ℕ × ℤ)) → k + length cs ≤ most_cols → ((j : ℕ) → is_storable (coefficients g j) ≡ true) → are_written (goal_lines k cs g) ≡ true
goal_inline k [] g room small = refl
goal_inline k (c ∷ cs) g room small =
    inline_more (term_line k (coefficients g k)) (goal_lines (suc k) cs g) (term_plain k (coefficients g k) (omega (arith, room)) (short_number (coefficients g k) (small k))) (goal_inline (suc k) cs g (omega (arith, room)) small)

terms_inline : (n : ℕ) (ts : List (ℕ × ℤ)) → n ≤ most_cols → ids_below n ts ≡ true → are_storable ts ≡ true → are_written (term_lines ts) ≡ true
terms_inline n [] room h s = refl
terms_inline n (t ∷ ts) room h s =
    let b = both (nat_lt t.0 n) (ids_below n ts) h in
    let q = both (is_storable t.1) (are_storable ts) s in
    inline_more (term_line t.0 t.1) (term_lines ts) (term_plain t.0 t.1 (omega (arith, is_less t.0 n b.0, room)) (short_number t.1 q.0)) (terms_inline n ts room b.1 q.1)
  where
    is_less : (a b : ℕ) → nat_lt a b ≡ true → a < b
    is_less a b h = grind (arith, nat_tests)

rows_inline : (n i : ℕ) (rs : List RowValue) → 0 < n → n ≤ most_cols → AreStoredRows n rs → i + rows_height rs ≤ most_rows → are_written (row_lines i rs) ≡ true
rows_inline n i [] some room stored short = refl
rows_inline n i (r ∷ rs) some room stored short =
    let one : 0 < height_of r.rel = some_count r.rel in
    inline_more (label_line (row_name i)) (term_lines (some_terms r.terms) ++ right_line r.rel r.right ∷ row_lines (suc i) rs) (row_label_plain i (omega (arith, one, short)))
    (inline_both (term_lines (some_terms r.terms)) (right_line r.rel r.right ∷ row_lines (suc i) rs)
    (terms_inline n (some_terms r.terms) room (some_below n r.terms some stored.0.terms) (some_small n r.terms stored.0.terms))
    (inline_more (right_line r.rel r.right) (row_lines (suc i) rs) (right_plain r.rel r.right (short_number r.right stored.0.right)) (rows_inline n (suc i) rs some room stored.1 (omega (arith, one, short)))))

free_inline : (k : ℕ) (cs : List Col) → k + length cs ≤ most_cols → are_written (free_lines k cs) ≡ true
free_inline k [] room = refl
free_inline k (c ∷ cs) room = go c.sign (free_inline (suc k) cs (omega (arith, room)))
  where
    go : (s : Sign) → are_written (free_lines (suc k) cs) ≡ true → are_written (if_free s (free_line k) (free_lines (suc k) cs)) ≡ true
    go sign.Free below = inline_more (free_line k) (free_lines (suc k) cs) (free_plain k (omega (arith, room))) below
    go sign.Nonneg below = below

integers_inline : (k : ℕ) (cs : List Col) → k + length cs ≤ most_cols → are_written (integer_lines k cs) ≡ true
integers_inline k [] room = refl
integers_inline k (c ∷ cs) room = go c.kind (integers_inline (suc k) cs (omega (arith, room)))
  where
    go : (d : Kind) → are_written (integer_lines (suc k) cs) ≡ true → are_written (if_integer d (integer_line k) (integer_lines (suc k) cs)) ≡ true
    go kind.Int below = inline_more (integer_line k) (integer_lines (suc k) cs) (integer_plain k (omega (arith, room))) below
    go kind.Real below = below

section_inline : (word : List ℕ) (lines : List (List ℕ)) → list_all is_written word ≡ true → are_written lines ≡ true → are_written (section_lines word lines) ≡ true
section_inline word [] p q = refl
section_inline word (line ∷ lines) p q = and_true (list_all is_written word) (are_written (line ∷ lines)) p q

sense_inline : (s : Sense) (lines : List (List ℕ)) → are_written lines ≡ true → are_written (sense_word s ∷ label_line (codes "obj") ∷ lines) ≡ true
sense_inline Min lines p = p
sense_inline Max lines p = p

lines_inline : (m : MilpValue) → IsMilp m → are_written (canonical_lines m) ≡ true
lines_inline m is =
    let few : length m.cols ≤ most_cols = omega (arith, cols_at_least m.cols, is.cols_within) in
    let room : 0 + length m.cols ≤ most_cols = omega (arith, few) in
    let bounds : List (List ℕ) = section_lines (codes "Bounds") (free_lines 0 m.cols) in
    let integers : List (List ℕ) = section_lines (codes "Generals") (integer_lines 0 m.cols) in
    sense_inline m.sense (goal_lines 0 m.cols m.goal ++ codes "Subject To" ∷ (row_lines 0 m.rows ++ (bounds ++ (integers ++ codes "End" ∷ []))))
    (inline_both (goal_lines 0 m.cols m.goal) (codes "Subject To" ∷ (row_lines 0 m.rows ++ (bounds ++ (integers ++ codes "End" ∷ []))))
    (goal_inline 0 m.cols m.goal room (λ j. coefficient_small 0 m.goal j is.goal.ascend is.goal.small))
    (inline_both (row_lines 0 m.rows) (bounds ++ (integers ++ codes "End" ∷ [])) (rows_inline (length m.cols) 0 m.rows is.some few is.rows (omega (arith, is.rows_within)))
    (inline_both bounds (integers ++ codes "End" ∷ []) (section_inline (codes "Bounds") (free_lines 0 m.cols) refl (free_inline 0 m.cols room))
    (inline_both integers (codes "End" ∷ []) (section_inline (codes "Generals") (integer_lines 0 m.cols) refl (integers_inline 0 m.cols room)) refl))))

pub written_spells : WrittenSpells
unfolding lp_text_of
written_spells m is =
    let taken : Taken = at_end m in
    let lines : lines_of (lp_text_of m) ≡ canonical_lines m = lines_again (canonical_lines m) (lines_inline m is) in
    let leads : LeadsBy lp_grammar 1 nothing_taken (lp_lines (lines_of (lp_text_of m))) taken =
    subst (λ (l : List (List ℕ)). LeadsBy lp_grammar 1 nothing_taken (lp_lines l) taken) (sym lines) (chain_leads 1 nothing_taken taken (canonical_lines m) (lines_lead m is)) in
    record { taken = taken; leads = leads; gives = finished m is }

-- comments add nothing
comment_tokens : (bs : List ℕ) → tokens_of (92 ∷ bs) ≡ []
unfolding tokens_by
comment_tokens bs = refl

comment_is : (b : ℕ) (bs : List ℕ) → is_comment (b ∷ bs) ≡ true → tokens_of (b ∷ bs) ≡ []
comment_is b bs e = ap (λ (x : ℕ). tokens_of (x ∷ bs)) (same b (both (b == 92) _ e).0) ∙ comment_tokens bs
  where
    same : (b : ℕ) → (b == 92) ≡ true → b ≡ 92
    same b e = grind (arith, nat_tests)

blank_taken : (t : Taken) (next : Bool) → t.noted ≡ None → with_line t (line_before [] next) ≡ Ok t
unfolding with_line
blank_taken t next none = ap (settled_with t) none

comments_lead : (k : ℕ) (t after : Taken) (comments ls : List (List ℕ)) → are_comments comments ≡ true → t.noted ≡ None → ((n : ℕ) → LeadsBy lp_grammar n t (lp_lines ls) after) → LeadsBy lp_grammar k t (lp_lines (comments ++ ls)) after
comments_lead k t after [] ls c none below = below k
comments_lead k t after ([] ∷ more) ls c none below = absurd (cc c)
comments_lead k t after ((b ∷ bs) ∷ more) ls c none below =
    let h = both (is_comment (b ∷ bs)) (are_comments more) c in
    let next : Bool = colon_next (map tokens_of (more ++ ls)) in
    (t, ap (λ (ts : List Token). with_line t (line_before ts next)) (comment_is b bs h.0) ∙ blank_taken t next none, comments_lead (k + 1) t after more ls h.1 none below)

comments_inline : (comments : List (List ℕ)) → are_comments comments ≡ true → are_written comments ≡ true
comments_inline [] c = refl
comments_inline ([] ∷ more) c = absurd (cc c)
comments_inline ((b ∷ bs) ∷ more) c =
    let h = both (is_comment (b ∷ bs)) (are_comments more) c in
    let r = both (b == 92) (list_all is_written bs) h.0 in
    and_true (list_all is_written (b ∷ bs)) (are_written more) (and_true (is_written b) (list_all is_written bs) (inside b r.0) r.1) (comments_inline more h.1)
  where
    inside : (b : ℕ) → (b == 92) ≡ true → is_written b ≡ true
    inside b e = grind (arith, nat_tests)

pub commented_spells : CommentedSpells
unfolding lp_text_of
commented_spells comments m c is =
    let taken : Taken = at_end m in
    let all : List (List ℕ) = comments ++ canonical_lines m in
    let lines : lines_of (text_of comments ++ lp_text_of m) ≡ all = ap lines_of (sym (text_appended comments (canonical_lines m))) ∙ lines_again all (inline_both comments (canonical_lines m) (comments_inline comments c) (lines_inline m is)) in
    let leads : LeadsBy lp_grammar 1 nothing_taken (lp_lines (lines_of (text_of comments ++ lp_text_of m))) taken =
    subst (λ (l : List (List ℕ)). LeadsBy lp_grammar 1 nothing_taken (lp_lines l) taken) (sym lines)
    (comments_lead 1 nothing_taken taken comments (canonical_lines m) c refl (λ n. chain_leads n nothing_taken taken (canonical_lines m) (lines_lead m is))) in
    record { taken = taken; leads = leads; gives = finished m is }
