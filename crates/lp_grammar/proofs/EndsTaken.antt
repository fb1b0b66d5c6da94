-- The lines of free and of integer columns are taken one after the other.
use Rattle.std.proofs.Common.{◌≡◌, ℕ, zero, suc, ◌+◌, ◌^◌, ◌<◌, ◌≤◌, Bool, true, false, if◌then◌else◌, List, [], ◌∷◌, ◌++◌, length, codes, Some, Result, Ok, refl, ap, sym, subst, ◌∙◌, append_assoc, length-append, arith}
use Rattle.std.specs.Prelude.{nat_le}
use Rattle.std.proofs.lemmas.Bool.Decides.{nat_tests}
use Rattle.lp_rows.specs.declared.columns.Col.{Col}
use Rattle.lp_rows.specs.declared.columns.Sign.{Sign}
use Rattle.lp_rows.specs.declared.columns.Sign.TheVariants as sign
use Rattle.lp_rows.specs.declared.kinds.Kind.{Kind}
use Rattle.lp_rows.specs.declared.kinds.Kind.TheVariants as kind
use Rattle.lp_rows.specs.Rows.{RowValue}
use Rattle.text_grammar.specs.Lexers.{tokens_by}
use Rattle.lp_grammar.specs.declared.cause.LpCause.{LpCause}
use Rattle.lp_grammar.specs.Canonical.{col_name, free_line, free_lines, if_free, integer_line, integer_lines, if_integer, section_lines}
use Rattle.lp_grammar.specs.Laws.{col_names}
use Rattle.lp_grammar.specs.Programs.{most_cols, most_rows}
use Rattle.milps.specs.Building.{bounds_of, bounds_height}
use Rattle.lp_grammar.specs.Reading.{with_line}
use Rattle.lp_grammar.specs.declared.stage.Stage.{Stage}
use Rattle.lp_grammar.specs.declared.stage.Stage.TheVariants.{Rows, Bounds, Names, Ended}
use Rattle.lp_grammar.specs.declared.stage.Column.{Column}
use Rattle.lp_grammar.specs.Taking.{Taken, nothing_pending, new_column, place_from, changed_at, added_rows, freed, made_integer}
use Rattle.lp_grammar.specs.Tokens.{Name, token_of, tokens_of}
use Rattle.lp_grammar.proofs.Chains.{line_before, IsTaken, Chain, taken_as, chained, chain_to}
use Rattle.lp_grammar.proofs.Columns.{IsNumbered, place_old}
use Rattle.lp_grammar.proofs.GoalTaken.{Fixed, in_row, state, new_columns}
use Rattle.lp_grammar.proofs.Words.{name_short, free_tokens, integer_tokens}

abbrev ok_at : Stage → Fixed → ℕ → List Column → List RowValue → Result Taken LpCause
ok_at stage f n columns rows = Ok (state stage f n columns rows)

-- where a section may open
pub data Later : Type 0 where
  InRows : Later
  InBounds : Later
  InNames : Later

abbrev pub stage_at : Later → Stage
stage_at InRows = Rows true nothing_pending
stage_at InBounds = Bounds
stage_at InNames = Names false

-- the words of sections
bounds_tokens : tokens_of (codes "Bounds") ≡ Name (codes "Bounds") ∷ []
unfolding tokens_by token_of
bounds_tokens = refl

integers_tokens : tokens_of (codes "Generals") ≡ Name (codes "Generals") ∷ []
unfolding tokens_by token_of
integers_tokens = refl

end_tokens : tokens_of (codes "End") ≡ Name (codes "End") ∷ []
unfolding tokens_by token_of
end_tokens = refl

bounds_opened : (f : Fixed) (n : ℕ) (columns : List Column) (rows : List RowValue) (l : Later)
    → IsTaken (state (stage_at l) f n columns rows) (codes "Bounds") (state Bounds f n columns rows)
unfolding with_line
bounds_opened f n columns rows l = taken_as _ _ (codes "Bounds") (Name (codes "Bounds") ∷ []) bounds_tokens (λ after. refl) (go l)
  where
    go : (l : Later) → with_line (state (stage_at l) f n columns rows) (line_before (Name (codes "Bounds") ∷ []) false) ≡ Ok (state Bounds f n columns rows)
    go InRows = refl
    go InBounds = refl
    go InNames = refl

integers_opened : (f : Fixed) (n : ℕ) (columns : List Column) (rows : List RowValue) (l : Later)
    → IsTaken (state (stage_at l) f n columns rows) (codes "Generals") (state (Names false) f n columns rows)
unfolding with_line
integers_opened f n columns rows l = taken_as _ _ (codes "Generals") (Name (codes "Generals") ∷ []) integers_tokens (λ after. refl) (go l)
  where
    go : (l : Later) → with_line (state (stage_at l) f n columns rows) (line_before (Name (codes "Generals") ∷ []) false) ≡ Ok (state (Names false) f n columns rows)
    go InRows = refl
    go InBounds = refl
    go InNames = refl

pub end_opened : (f : Fixed) (n : ℕ) (columns : List Column) (rows : List RowValue) (l : Later)
    → IsTaken (state (stage_at l) f n columns rows) (codes "End") (state Ended f n columns rows)
unfolding with_line
end_opened f n columns rows l = taken_as _ _ (codes "End") (Name (codes "End") ∷ []) end_tokens (λ after. refl) (go l)
  where
    go : (l : Later) → with_line (state (stage_at l) f n columns rows) (line_before (Name (codes "End") ∷ []) false) ≡ Ok (state Ended f n columns rows)
    go InRows = refl
    go InBounds = refl
    go InNames = refl

-- columns with their bounds, and with their kinds
abbrev pub bounded : Sign → Column
bounded sign.Free = freed new_column
bounded sign.Nonneg = new_column

abbrev pub bounded_columns : List Col → List Column
bounded_columns [] = []
bounded_columns (c ∷ cs) = bounded c.sign ∷ bounded_columns cs

abbrev pub of_kind : Kind → Column → Column
of_kind kind.Real c = c
of_kind kind.Int c = made_integer c

abbrev pub final_columns : List Col → List Column
final_columns [] = []
final_columns (c ∷ cs) = of_kind c.kind (bounded c.sign) ∷ final_columns cs

pub names_numbered : (k : ℕ) (cs : List Col) → IsNumbered k (col_names k cs)
names_numbered k [] = tt
names_numbered k (c ∷ cs) = (refl, names_numbered (suc k) cs)

pub names_length : (k : ℕ) (cs : List Col) → length (col_names k cs) ≡ length cs
names_length k [] = refl
names_length k (c ∷ cs) = ap suc (names_length (suc k) cs)

-- the column behind these is changed
changed_behind : (change : Column → Column) (k : ℕ) (done : List Column) (c : Column) (cs : List Column) → length done ≡ k → changed_at k change (done ++ c ∷ cs) ≡ done ++ change c ∷ cs
changed_behind change zero [] c cs e = refl
changed_behind change (suc k) [] c cs e = absurd (omega (arith, e))
changed_behind change zero (d ∷ ds) c cs e = absurd (omega (arith, e))
changed_behind change (suc k) (d ∷ ds) c cs e = ap (λ (l : List Column). d ∷ l) (changed_behind change k ds c cs (omega (arith, e)))

-- and counts two rows where it becomes integer
added_behind : (k : ℕ) (done : List Column) (c : Column) (cs : List Column) → length done ≡ k → c.is_integer ≡ false → added_rows k (done ++ c ∷ cs) ≡ 2
added_behind zero [] c cs e real = ap (λ (b : Bool). if b then 0 else 2) real
added_behind (suc k) [] c cs e real = absurd (omega (arith, e))
added_behind zero (d ∷ ds) c cs e real = absurd (omega (arith, e))
added_behind (suc k) (d ∷ ds) c cs e real = added_behind k ds c cs (omega (arith, e)) real

bounded_real : (s : Sign) → (bounded s).is_integer ≡ false
bounded_real sign.Free = refl
bounded_real sign.Nonneg = refl

free_step : (f : Fixed) (n : ℕ) (columns : List Column) (rows : List RowValue) (j : ℕ) → j < 10 ^ 64 → place_from 0 (col_name j) f.names ≡ Some j
    → with_line (state Bounds f n columns rows) (line_before (Name (col_name j) ∷ Name (codes "free") ∷ []) false) ≡ Ok (state Bounds f n (changed_at j freed columns) rows)
unfolding with_line
free_step f n columns rows j short old = rw (name_short j short, old) refl

integer_step : (f : Fixed) (n : ℕ) (columns : List Column) (rows : List RowValue) (j : ℕ) → j < 10 ^ 64 → place_from 0 (col_name j) f.names ≡ Some j
    → added_rows j columns ≡ 2 → nat_le (n + 2) most_rows ≡ true
    → with_line (state (Names false) f n columns rows) (line_before (Name (col_name j) ∷ []) false) ≡ Ok (state (Names false) f (n + 2) (changed_at j made_integer columns) rows)
unfolding with_line
integer_step f n columns rows j short old two room = rw (name_short j short, old, two, room) refl

-- lines from a state that is equal
chain_from : (a b c : Taken) (ls : List (List ℕ)) → a ≡ b → Chain b ls c → Chain a ls c
chain_from a b c ls e p = subst (λ (t : Taken). Chain t ls c) (sym e) p

-- one more column behind those that are done
moved : (done : List Column) (c : Column) (cs : List Column) → done ++ (c ∷ cs) ≡ (done ++ c ∷ []) ++ cs
moved done c cs = sym (append_assoc done (c ∷ []) cs)

more_length : (k : ℕ) (done : List Column) (c : Column) → length done ≡ k → length (done ++ c ∷ []) ≡ suc k
more_length k done c e = omega (arith, length-append done (c ∷ []), e)

-- a line for each free column
free_taken : (f : Fixed) (n : ℕ) (rows : List RowValue) (done : List Column) (k : ℕ) (cs : List Col) → IsNumbered 0 f.names → length f.names ≤ most_cols → length done ≡ k → k + length cs ≤ length f.names
    → Chain (state Bounds f n (done ++ new_columns cs) rows) (free_lines k cs) (state Bounds f n (done ++ bounded_columns cs) rows)
free_taken f n rows done k [] is few e room = refl
free_taken f n rows done k (c ∷ cs) is few e room =
    go c.sign (λ d. free_taken f n rows (done ++ d ∷ []) (suc k) cs is few (more_length k done d e) (omega (arith, room)))
  where
    go : (s : Sign) → ((d : Column) → Chain (state Bounds f n ((done ++ d ∷ []) ++ new_columns cs) rows) (free_lines (suc k) cs) (state Bounds f n ((done ++ d ∷ []) ++ bounded_columns cs) rows))
        → Chain (state Bounds f n (done ++ new_column ∷ new_columns cs) rows) (if_free s (free_line k) (free_lines (suc k) cs))
        (state Bounds f n (done ++ bounded s ∷ bounded_columns cs) rows)
    go sign.Free below =
        let short : k < 10 ^ 64 = omega (arith, room, few) in
        let d : Column = bounded sign.Free in
        let next : Taken = state Bounds f n ((done ++ d ∷ []) ++ new_columns cs) rows in
        let changed : changed_at k freed (done ++ new_column ∷ new_columns cs) ≡ (done ++ d ∷ []) ++ new_columns cs =
        changed_behind freed k done new_column (new_columns cs) e ∙ moved done d (new_columns cs) in (
          next,
          taken_as _ next (free_line k) (Name (col_name k) ∷ Name (codes "free") ∷ []) (free_tokens k short) (λ after. refl)
              (free_step f n (done ++ new_column ∷ new_columns cs) rows k short
              (place_old 0 k f.names is (omega arith) (omega (arith, room)) short)
              ∙ ap (λ (x : List Column). ok_at Bounds f n x rows) changed),
          chain_to next _ _ (free_lines (suc k) cs) (ap (λ (x : List Column). state Bounds f n x rows) (sym (moved done d (bounded_columns cs)))) (below d),
        )
    go sign.Nonneg below =
        let d : Column = bounded sign.Nonneg in
        chain_from _ (state Bounds f n ((done ++ d ∷ []) ++ new_columns cs) rows) _ (free_lines (suc k) cs)
        (ap (λ (x : List Column). state Bounds f n x rows) (moved done d (new_columns cs)))
        (chain_to _ _ _ (free_lines (suc k) cs) (ap (λ (x : List Column). state Bounds f n x rows) (sym (moved done d (bounded_columns cs)))) (below d))

within_test : (n : ℕ) → n ≤ most_rows → nat_le n most_rows ≡ true
within_test n h = grind (arith, nat_tests)

-- a line for each integer column
integers_taken : (f : Fixed) (n : ℕ) (rows : List RowValue) (done : List Column) (k : ℕ) (cs : List Col) → IsNumbered 0 f.names → length f.names ≤ most_cols → length done ≡ k → k + length cs ≤ length f.names
    → n + bounds_height cs ≤ most_rows
    → Chain (state (Names false) f n (done ++ bounded_columns cs) rows) (integer_lines k cs) (state (Names false) f (n + bounds_height cs) (done ++ final_columns cs) rows)
integers_taken f n rows done k [] is few e room within = ap (λ (m : ℕ). state (Names false) f m (done ++ []) rows) (omega arith)
integers_taken f n rows done k (c ∷ cs) is few e room within =
    go c.kind within
    (λ m d less. integers_taken f m rows (done ++ d ∷ []) (suc k) cs is few (more_length k done d e) (omega (arith, room)) less)
  where
    go : (s : Kind) → n + (bounds_of s + bounds_height cs) ≤ most_rows
        → ((m : ℕ) (d : Column) → m + bounds_height cs ≤ most_rows
        → Chain (state (Names false) f m ((done ++ d ∷ []) ++ bounded_columns cs) rows) (integer_lines (suc k) cs) (state (Names false) f (m + bounds_height cs) ((done ++ d ∷ []) ++ final_columns cs) rows))
        → Chain (state (Names false) f n (done ++ bounded c.sign ∷ bounded_columns cs) rows) (if_integer s (integer_line k) (integer_lines (suc k) cs))
        (state (Names false) f (n + (bounds_of s + bounds_height cs)) (done ++ of_kind s (bounded c.sign) ∷ final_columns cs) rows)
    go kind.Int within below =
        let short : k < 10 ^ 64 = omega (arith, room, few) in
        let d : Column = made_integer (bounded c.sign) in
        let next : Taken = state (Names false) f (n + 2) ((done ++ d ∷ []) ++ bounded_columns cs) rows in
        let changed : changed_at k made_integer (done ++ bounded c.sign ∷ bounded_columns cs) ≡ (done ++ d ∷ []) ++ bounded_columns cs =
        changed_behind made_integer k done (bounded c.sign) (bounded_columns cs) e ∙ moved done d (bounded_columns cs) in (
          next,
          taken_as _ next (integer_line k) (Name (col_name k) ∷ []) (integer_tokens k short) (λ after. refl)
              (integer_step f n (done ++ bounded c.sign ∷ bounded_columns cs) rows k short
              (place_old 0 k f.names is (omega arith) (omega (arith, room)) short)
              (added_behind k done (bounded c.sign) (bounded_columns cs) e (bounded_real c.sign)) (within_test _ (omega (arith, within)))
              ∙ ap (λ (x : List Column). ok_at (Names false) f (n + 2) x rows) changed),
          chain_to next _ _ (integer_lines (suc k) cs)
              (ap (λ (x : List Column). state (Names false) f (n + 2 + bounds_height cs) x rows) (sym (moved done d (final_columns cs)))
              ∙ ap (λ (m : ℕ). state (Names false) f m (done ++ (d ∷ final_columns cs)) rows) (omega arith))
              (below (n + 2) d (omega (arith, within))),
        )
    go kind.Real within below =
        let d : Column = bounded c.sign in
        chain_from _ (state (Names false) f n ((done ++ d ∷ []) ++ bounded_columns cs) rows) _ (integer_lines (suc k) cs)
        (ap (λ (x : List Column). state (Names false) f n x rows) (moved done d (bounded_columns cs)))
        (chain_to _ _ _ (integer_lines (suc k) cs)
        (ap (λ (x : List Column). state (Names false) f (n + bounds_height cs) x rows) (sym (moved done d (final_columns cs)))
        ∙ ap (λ (m : ℕ). state (Names false) f m (done ++ (d ∷ final_columns cs)) rows) (omega arith))
        (below n d (omega (arith, within))))

-- a section with its lines, or nothing where it has none
sections_taken : (word : List ℕ) (from into : Later) (f : Fixed) (n m : ℕ) (old new : List Column) (rows : List RowValue) (lines : List (List ℕ))
    → IsTaken (state (stage_at from) f n old rows) word (state (stage_at into) f n old rows)
    → Chain (state (stage_at into) f n old rows) lines (state (stage_at into) f m new rows)
    → (l : Later) × Chain (state (stage_at from) f n old rows) (section_lines word lines) (state (stage_at l) f m new rows)
sections_taken word from into f n m old new rows [] opens chain = (from, ap (λ (t : Taken). state (stage_at from) f t.count t.columns rows) chain)
sections_taken word from into f n m old new rows (line ∷ lines) opens chain = (into, (state (stage_at into) f n old rows, opens, chain))

-- both sections
pub ends_taken : (f : Fixed) (n : ℕ) (rows : List RowValue) (cs : List Col) → IsNumbered 0 f.names → length f.names ≤ most_cols → length cs ≤ length f.names → n + bounds_height cs ≤ most_rows
    → (l : Later) × Chain (in_row [] (Rows true nothing_pending) f n (new_columns cs) rows)
    (section_lines (codes "Bounds") (free_lines 0 cs) ++ section_lines (codes "Generals") (integer_lines 0 cs))
    (state (stage_at l) f (n + bounds_height cs) (final_columns cs) rows)
ends_taken f n rows cs is few room within =
    let bounds = sections_taken (codes "Bounds") InRows InBounds f n n (new_columns cs) (bounded_columns cs) rows (free_lines 0 cs)
    (bounds_opened f n (new_columns cs) rows InRows) (free_taken f n rows [] 0 cs is few refl (omega (arith, room))) in
    let integers = sections_taken (codes "Generals") bounds.0 InNames f n (n + bounds_height cs) (bounded_columns cs) (final_columns cs) rows (integer_lines 0 cs)
    (integers_opened f n (bounded_columns cs) rows bounds.0) (integers_taken f n rows [] 0 cs is few refl (omega (arith, room)) within) in
    (integers.0, chained _ (state (stage_at bounds.0) f n (bounded_columns cs) rows) _ (section_lines (codes "Bounds") (free_lines 0 cs)) (section_lines (codes "Generals") (integer_lines 0 cs)) bounds.1 integers.1)
