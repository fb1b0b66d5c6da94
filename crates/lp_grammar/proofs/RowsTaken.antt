-- The lines of rows are taken one after the other.
use Rattle.std.proofs.Common.{◌≡◌, ℕ, suc, ◌+◌, ◌^◌, ◌<◌, ◌≤◌, ℤ, pos, int_lt, Bool, true, false, ◌&&◌, List, [], ◌∷◌, ◌++◌, length, Some, None, Option, Result, Ok, refl, ap, sym, ◌∙◌, append-nil, append_assoc, arith}
use Rattle.std.specs.Prelude.{unsigned_abs, nat_le, nat_lt}
use Rattle.std.specs.List.{list_all}
use Rattle.std.specs.Fmt.{decimal}
use Rattle.std.proofs.lemmas.Bool.{cond-true}
use Rattle.std.proofs.lemmas.Bool.Decides.{nat_tests}
use Rattle.lp_grammar.specs.declared.cause.LpCause.{LpCause}
use Rattle.fractions.specs.Fraction.{Fraction}
use Rattle.lp_rows.specs.Holding.{ids_below}
use Rattle.lp_rows.specs.declared.kinds.Rel.{Rel}
use Rattle.lp_rows.specs.declared.kinds.Rel.TheVariants as rel
use Rattle.lp_rows.specs.Rows.{RowValue, ascends_from, are_storable, is_storable}
use Rattle.text_grammar.proofs.Bools.{both, and_true}
use Rattle.lp_grammar.specs.Canonical.{col_name, row_name, term_line, term_lines, some_terms, label_line, right_line, row_lines}
use Rattle.lp_grammar.specs.Programs.{most_cols, most_rows, AreStored, IsStoredRow, AreStoredRows}
use Rattle.milps.specs.Building.{height_of, rows_height}
use Rattle.lp_grammar.specs.Reading.{with_line, is_empty}
use Rattle.lp_grammar.specs.Scaling.{whole, has_id, insert_term, scaled, without_zeros}
use Rattle.lp_grammar.specs.declared.stage.Stage.TheVariants.{Rows}
use Rattle.lp_grammar.specs.declared.stage.Column.{Column}
use Rattle.lp_grammar.specs.Taking.{Taken, nothing_pending, place_from, numeral_value, turned_if, row_by, if_narrow, row_of}
use Rattle.lp_grammar.specs.Tokens.{Name, Compare, Colon}
use Rattle.lp_grammar.proofs.Chains.{line_before, Chain, taken_as, chained, chain_to}
use Rattle.lp_grammar.proofs.Columns.{IsNumbered, place_old}
use Rattle.lp_grammar.proofs.Dense.{wholes, insert_last, below_pushed, absent, scale_one, stored_again, no_zeros, scaled_whole}
use Rattle.lp_grammar.proofs.GoalTaken.{Fixed, in_row, term_pieces}
use Rattle.lp_grammar.proofs.Lexing.{plain}
use Rattle.lp_grammar.proofs.Values.{short_number, value_again, turned_again, sign_again}
use Rattle.lp_grammar.proofs.Words.{name_short, term_tokens, row_label_tokens, right_pieces, right_tokens}

-- the line of a term
row_term : (f : Fixed) (n : ℕ) (columns : List Column) (rows : List RowValue) (terms : List (ℕ × Fraction)) (j : ℕ) (c : ℤ) → j < 10 ^ 64 → is_storable c ≡ true
    → place_from 0 (col_name j) f.names ≡ Some j → has_id j terms ≡ false
    → with_line (in_row terms (Rows false nothing_pending) f n columns rows) (line_before (term_pieces j c) false)
    ≡ Ok (in_row (insert_term (j, whole c) terms) (Rows false nothing_pending) f n columns rows)
unfolding with_line
row_term f n columns rows terms j c short small old new =
    rw (value_again c small, name_short j short, old, new, sign_again (int_lt c (pos 0)), turned_again c) refl

abbrev ok_row : Fixed → ℕ → List Column → List RowValue → List (ℕ × Fraction) → Result Taken LpCause
ok_row f n columns rows terms = Ok (in_row terms (Rows false nothing_pending) f n columns rows)

-- a line for each term
terms_taken : (f : Fixed) (n : ℕ) (columns : List Column) (rows : List RowValue) (terms : List (ℕ × Fraction)) (least : ℕ) (ts : List (ℕ × ℤ))
    → IsNumbered 0 f.names → length f.names ≤ most_cols → ascends_from least ts ≡ true → are_storable ts ≡ true → ids_below (length f.names) ts ≡ true → list_all (λ t. nat_lt t.0 least) terms ≡ true
    → Chain (in_row terms (Rows false nothing_pending) f n columns rows) (term_lines ts) (in_row (terms ++ wholes ts) (Rows false nothing_pending) f n columns rows)
terms_taken f n columns rows terms least [] is room a s h below =
    ap (λ (x : List (ℕ × Fraction)). in_row x (Rows false nothing_pending) f n columns rows) (sym (append-nil terms))
terms_taken f n columns rows terms least (t ∷ ts) is room a s h below =
    let up = both (nat_le least t.0) (ascends_from (suc t.0) ts) a in
    let stored = both (is_storable t.1) (are_storable ts) s in
    let within = both (nat_lt t.0 (length f.names)) (ids_below (length f.names) ts) h in
    let inside : t.0 < length f.names = is_less t.0 (length f.names) within.0 in
    let short : t.0 < 10 ^ 64 = omega (arith, inside, room) in
    let w : ℕ × Fraction = (t.0, whole t.1) in
    let next : Taken = in_row (terms ++ w ∷ []) (Rows false nothing_pending) f n columns rows in
    let before : list_all (λ u. nat_lt u.0 t.0) terms ≡ true = lower least t.0 terms (at_least least t.0 up.0) below in
    let rest = terms_taken f n columns rows (terms ++ w ∷ []) (suc t.0) ts is room up.1 stored.1 within.1 (below_pushed t.0 terms w (omega arith) before) in (
      next,
      taken_as _ next (term_line t.0 t.1) (term_pieces t.0 t.1) (term_tokens t.0 t.1 short (short_number t.1 stored.0)) (λ after. refl)
          (row_term f n columns rows terms t.0 t.1 short stored.0 (place_old 0 t.0 f.names is (omega arith) (omega (arith, inside)) short) (absent t.0 terms before)
          ∙ ap (ok_row f n columns rows) (insert_last w terms before)),
      chain_to next _ _ (term_lines ts) (ap (λ (x : List (ℕ × Fraction)). in_row x (Rows false nothing_pending) f n columns rows) (append_assoc terms (w ∷ []) (wholes ts))) rest,
    )
  where
    is_less : (a b : ℕ) → nat_lt a b ≡ true → a < b
    is_less a b h = grind (arith, nat_tests)

    at_least : (a b : ℕ) → nat_le a b ≡ true → a ≤ b
    at_least a b h = grind (arith, nat_tests)

    more : (x y z : ℕ) → nat_lt x y ≡ true → y ≤ z → nat_lt x z ≡ true
    more x y z p q = grind (arith, nat_tests)

    lower : (least least' : ℕ) (placed : List (ℕ × Fraction)) → least ≤ least' → list_all (λ u. nat_lt u.0 least) placed ≡ true → list_all (λ u. nat_lt u.0 least') placed ≡ true
    lower least least' [] le h = refl
    lower least least' (u ∷ us) le h =
        let a = both (nat_lt u.0 least) (list_all (λ v. nat_lt v.0 least) us) h in
        and_true (nat_lt u.0 least') (list_all (λ v. nat_lt v.0 least') us) (more u.0 least least' a.0 le) (lower least least' us le a.1)

-- a row's name
row_label : (f : Fixed) (n : ℕ) (columns : List Column) (rows : List RowValue) (i : ℕ) → i < 10 ^ 64
    → with_line (in_row [] (Rows true nothing_pending) f n columns rows) (line_before (Name (row_name i) ∷ Colon ∷ []) false)
    ≡ Ok (in_row [] (Rows false nothing_pending) f n columns rows)
unfolding with_line
row_label f n columns rows i short = rw (name_short i short) refl

abbrev ok_rows : Fixed → ℕ → List Column → List RowValue → Result Taken LpCause
ok_rows f n columns rows = Ok (in_row [] (Rows true nothing_pending) f n columns rows)

-- a row's relation and right side
right_with : (f : Fixed) (n : ℕ) (columns : List Column) (rows : List RowValue) (terms : List (ℕ × Fraction)) (r : RowValue) (ds : List ℕ) (b : Bool) (v : Fraction)
    → is_empty terms ≡ false → numeral_value (plain ds) ≡ Some v → row_of terms r.rel (turned_if b v) ≡ Some r → nat_le (n + height_of r.rel) most_rows ≡ true
    → with_line (in_row terms (Rows false nothing_pending) f n columns rows) (line_before (Compare r.rel ∷ (right_pieces b ds ++ [])) false)
    ≡ ok_rows f (n + height_of r.rel) columns (rows ++ r ∷ [])
unfolding with_line
right_with f n columns rows terms r ds true v some value row room = rw (some, value, row, room) refl
right_with f n columns rows terms r ds false v some value row room = rw (some, value, row, room) refl

-- a row is scaled to itself
row_parts : (ts : List (ℕ × ℤ)) (r : Rel) (right : ℤ) → row_of (wholes ts) r (whole right) ≡ if_narrow (record { terms = without_zeros ts; rel = r; right = right })
unfolding row_of
row_parts ts r right =
    let with_terms : List (ℕ × ℤ) → Option RowValue = λ l. if_narrow (record { terms = l; rel = r; right = scaled 1 (whole right) }) in
    let with_right : ℤ → Option RowValue = λ z. if_narrow (record { terms = without_zeros ts; rel = r; right = z }) in
    ap (λ (k : Option ℕ). row_by k (wholes ts) r (whole right)) (scale_one ts right) ∙ ap with_terms (stored_again ts) ∙ ap with_right (scaled_whole right)

some_ascend : (n : ℕ) (ts : List (ℕ × ℤ)) → AreStored n ts → ascends_from 0 (some_terms ts) ≡ true
some_ascend n [] stored = refl
some_ascend n (t ∷ ts) stored = stored.ascend

pub some_small : (n : ℕ) (ts : List (ℕ × ℤ)) → AreStored n ts → are_storable (some_terms ts) ≡ true
some_small n [] stored = refl
some_small n (t ∷ ts) stored = stored.small

pub some_below : (n : ℕ) (ts : List (ℕ × ℤ)) → 0 < n → AreStored n ts → ids_below n (some_terms ts) ≡ true
some_below n [] some stored = and_true (nat_lt 0 n) true (first n some) refl
  where
    first : (n : ℕ) → 0 < n → nat_lt 0 n ≡ true
    first n h = grind (arith, nat_tests)
some_below n (t ∷ ts) some stored = stored.below

some_kept : (n : ℕ) (ts : List (ℕ × ℤ)) → AreStored n ts → without_zeros (some_terms ts) ≡ ts
some_kept n [] stored = refl
some_kept n (t ∷ ts) stored = no_zeros (t ∷ ts) stored.none

some_there : (ts : List (ℕ × ℤ)) → is_empty (wholes (some_terms ts)) ≡ false
some_there [] = refl
some_there (t ∷ ts) = refl

row_again : (n : ℕ) (r : RowValue) → IsStoredRow n r → row_of (wholes (some_terms r.terms)) r.rel (turned_if (int_lt r.right (pos 0)) (whole (pos (unsigned_abs r.right)))) ≡ Some r
row_again n r stored =
    let with_terms : List (ℕ × ℤ) → Option RowValue = λ l. if_narrow (record { terms = l; rel = r.rel; right = r.right }) in
    ap (λ (f : Fraction). row_of (wholes (some_terms r.terms)) r.rel f) (turned_again r.right)
    ∙ row_parts (some_terms r.terms) r.rel r.right ∙ ap with_terms (some_kept n r.terms stored.terms)
    ∙ cond-true (are_storable r.terms && is_storable r.right) (Some r) None (and_true (are_storable r.terms) (is_storable r.right) stored.terms.small stored.right)

pub some_count : (r : Rel) → 0 < height_of r
some_count rel.AtMost = omega arith
some_count rel.AtLeast = omega arith
some_count rel.Equal = omega arith

-- a label line, a line for each term, and a line with the relation and the right side, for each row
pub rows_taken : (f : Fixed) (n : ℕ) (columns : List Column) (rows : List RowValue) (i : ℕ) (rs : List RowValue)
    → IsNumbered 0 f.names → 0 < length f.names → length f.names ≤ most_cols → AreStoredRows (length f.names) rs → i + rows_height rs ≤ most_rows
    → n + rows_height rs ≤ most_rows
    → Chain (in_row [] (Rows true nothing_pending) f n columns rows) (row_lines i rs) (in_row [] (Rows true nothing_pending) f (n + rows_height rs) columns (rows ++ rs))
rows_taken f n columns rows i [] is some within stored short room =
    ap (λ (x : List RowValue). in_row [] (Rows true nothing_pending) f n columns x) (sym (append-nil rows))
    ∙ ap (λ (m : ℕ). in_row [] (Rows true nothing_pending) f m columns (rows ++ [])) (omega arith)
rows_taken f n columns rows i (r ∷ rs) is some within stored short room =
    let one : 0 < height_of r.rel = some_count r.rel in
    let m : ℕ = length f.names in
    let i_short : i < 10 ^ 64 = omega (arith, one, short) in
    let row : IsStoredRow m r = stored.0 in
    let ts : List (ℕ × ℤ) = some_terms r.terms in
    let more : ℕ = n + height_of r.rel in
    let fresh : Taken = in_row [] (Rows false nothing_pending) f n columns rows in
    let summed : Taken = in_row (wholes ts) (Rows false nothing_pending) f n columns rows in
    let next : Taken = in_row [] (Rows true nothing_pending) f more columns (rows ++ r ∷ []) in
    let counted : nat_le (n + height_of r.rel) most_rows ≡ true = is_within _ (omega (arith, room)) in
    let terms = terms_taken f n columns rows [] 0 ts is within (some_ascend m r.terms row.terms) (some_small m r.terms row.terms) (some_below m r.terms some row.terms) refl in
    let right : with_line summed (line_before (Compare r.rel ∷ (right_pieces (int_lt r.right (pos 0)) (decimal (unsigned_abs r.right)) ++ [])) false) ≡ Ok next =
    right_with f n columns rows (wholes ts) r (decimal (unsigned_abs r.right)) (int_lt r.right (pos 0)) (whole (pos (unsigned_abs r.right))) (some_there r.terms)
    (value_again r.right row.right) (row_again m r row) counted in
    let rest = rows_taken f more columns (rows ++ r ∷ []) (suc i) rs is some within stored.1 (omega (arith, one, short)) (omega (arith, room)) in (
      fresh,
      taken_as _ fresh (label_line (row_name i)) (Name (row_name i) ∷ Colon ∷ []) (row_label_tokens i i_short) (λ after. refl) (row_label f n columns rows i i_short),
      chained fresh summed _ (term_lines ts) (right_line r.rel r.right ∷ row_lines (suc i) rs) terms (
        next,
        taken_as summed next (right_line r.rel r.right) (Compare r.rel ∷ (right_pieces (int_lt r.right (pos 0)) (decimal (unsigned_abs r.right)) ++ [])) (right_tokens r.rel r.right (short_number r.right row.right)) (λ after. refl) right,
        chain_to next _ _ (row_lines (suc i) rs)
            (ap (λ (x : List RowValue). in_row [] (Rows true nothing_pending) f (more + rows_height rs) columns x) (append_assoc rows (r ∷ []) rs)
            ∙ ap (λ (k : ℕ). in_row [] (Rows true nothing_pending) f k columns (rows ++ (r ∷ rs))) (omega arith)) rest,
      ),
    )
  where
    is_within : (n : ℕ) → n ≤ most_rows → nat_le n most_rows ≡ true
    is_within n h = grind (arith, nat_tests)
