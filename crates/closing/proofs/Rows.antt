-- What a bounded force says of its rows, and a coefficient that is read at its place.
use Rattle.std.proofs.Common.{◌≡◌, ◌≢◌, ◌<◌, ◌≤◌, ◌+◌, ◌==◌, ℕ, zero, suc, ℤ, pos, true, false, List, [], ◌∷◌, length, drop, get_or, nat_le, arith, refl, sym, ◌∙◌, add-one, drop-cons, subst}
use Rattle.std.proofs.lemmas.Int.{ints}
use Rattle.std.proofs.lemmas.Bool.{eq-eqb, ne_eqb}
use Rattle.std.proofs.lemmas.Bool.Decides.{nat_tests}
use Rattle.std.proofs.lemmas.List.{get_or_default}
use Rattle.std.specs.List.{list_all}
use Rattle.int_linear.specs.Terms.{coefficients}
use Rattle.lp_rows.specs.Rows.{ascends_from}
use Rattle.lp_frame.specs.declared.force.AtMost.{AtMost}
use Rattle.lp_frame.specs.declared.force.Force.{Force}
use Rattle.lp_frame.specs.Force.{are_terms, is_row, is_bounded}
use Rattle.fractions.specs.Width.{is_narrow}
use Rattle.lp_frame.proofs.Both.{first, second}
use Rattle.lp_frame.proofs.Terms.{terms_ascend}
use Rattle.lp_frame.proofs.Points.{good_rows, good_goal, few_rows, few_cols}
use Rattle.closing.specs.Rows.{row_of}

-- one of the rows
row_good : (n : ℕ) (rows : List AtMost) (k : ℕ) → list_all (is_row n) rows ≡ true → k < length rows → is_row n (row_of rows k) ≡ true
row_good n [] k h l = absurd (omega arith)
row_good n (row ∷ rows) zero h l = first (is_row n row) (list_all (is_row n) rows) h
row_good n (row ∷ rows) (suc k) h l = row_good n rows k (second (is_row n row) (list_all (is_row n) rows) h) (omega arith)

pub row_terms : (force : Force) (k : ℕ) → is_bounded force ≡ true → k < length force.rows → are_terms (length force.cols) (row_of force.rows k).terms ≡ true
row_terms force k b l =
    first (are_terms (length force.cols) (row_of force.rows k).terms) (is_narrow (row_of force.rows k).bound)
    (row_good (length force.cols) force.rows k (good_rows force b) l)

pub row_read : (rows : List AtMost) (k : ℕ) (row : AtMost) → k < length rows → row ≡ get_or rows k row → row ≡ row_of rows k
row_read rows k row l e = e ∙ get_or_default rows k row (record { terms = []; bound = pos 0 }) l

pub row_ascends : (force : Force) (k : ℕ) (row : AtMost) → is_bounded force ≡ true → k < length force.rows → row ≡ get_or force.rows k row → ascends_from 0 row.terms ≡ true
row_ascends force k row b l e =
    subst (λ r. ascends_from 0 r.terms ≡ true) (sym (row_read force.rows k row l e)) (terms_ascend (length force.cols) (row_of force.rows k).terms (row_terms force k b l))

pub goal_ascends : (force : Force) → is_bounded force ≡ true → ascends_from 0 force.goal ≡ true
goal_ascends force b = terms_ascend (length force.cols) force.goal (good_goal force b)

pub row_count : (force : Force) → is_bounded force ≡ true → length force.rows ≤ 4000
row_count force b = let f = few_rows force b in grind (arith, nat_tests)

pub column_count : (force : Force) → is_bounded force ≡ true → length force.cols ≤ 4000
column_count force b = few_cols force b

-- no term stands at a column before the first
pub coefficients_before : (least j : ℕ) (ts : List (ℕ × ℤ)) → ascends_from least ts ≡ true → j < least → coefficients ts j ≡ pos 0
coefficients_before least j [] h p = refl
coefficients_before least j (t ∷ ts) h p =
    let above = first (nat_le least t.0) (ascends_from (suc t.0) ts) h in
    let apart : least ≤ t.0 = grind (arith, nat_tests) in
    let e : (t.0 == j) ≡ false = ne_eqb t.0 j (omega arith) in
    rw (e, coefficients_before (suc t.0) j ts (second (nat_le least t.0) (ascends_from (suc t.0) ts) h) (omega arith)) refl

-- the term at a column alone counts
alone : (t : ℕ × ℤ) (ts : List (ℕ × ℤ)) (least j : ℕ) → ascends_from least (t ∷ ts) ≡ true → t.0 ≡ j → coefficients (t ∷ ts) j ≡ t.1
alone t ts least j h e =
    let b : (t.0 == j) ≡ true = eq-eqb t.0 j e in
    let none = coefficients_before (suc t.0) j ts (second (nat_le least t.0) (ascends_from (suc t.0) ts) h) (omega arith) in
    rw (b, none) (omega (arith, ints))

passed : (t : ℕ × ℤ) (ts : List (ℕ × ℤ)) (j : ℕ) → t.0 ≢ j → coefficients (t ∷ ts) j ≡ coefficients ts j
passed t ts j ne = let b : (t.0 == j) ≡ false = ne_eqb t.0 j ne in rw b (omega (arith, ints))

pub here : (ts : List (ℕ × ℤ)) (least i j : ℕ) → i < length ts → ascends_from least (drop i ts) ≡ true → (get_or ts i (0, pos 0)).0 ≡ j → (get_or ts i (0, pos 0)).1 ≡ coefficients (drop i ts) j
here ts least i j l h e = let k = rw (drop-cons ts i (0, pos 0)) at h in rw (drop-cons ts i (0, pos 0)) (sym (alone (get_or ts i (0, pos 0)) (drop (suc i) ts) least j k e))

pub later : (ts : List (ℕ × ℤ)) (i j : ℕ) → i < length ts → (get_or ts i (0, pos 0)).0 ≢ j → coefficients (drop (i + 1) ts) j ≡ coefficients (drop i ts) j
later ts i j l ne = rw (add-one, drop-cons ts i (0, pos 0)) (sym (passed (get_or ts i (0, pos 0)) (drop (suc i) ts) j ne))

pub ascends_later : (ts : List (ℕ × ℤ)) (least i : ℕ) → i < length ts → ascends_from least (drop i ts) ≡ true → ascends_from (suc (get_or ts i (0, pos 0)).0) (drop (i + 1) ts) ≡ true
ascends_later ts least i l h =
    let k = rw (drop-cons ts i (0, pos 0)) at h in
    rw add-one (second (nat_le least (get_or ts i (0, pos 0)).0) (ascends_from (suc (get_or ts i (0, pos 0)).0) (drop (suc i) ts)) k)

-- no term from here on stands at a column before this one's
pub above : (ts : List (ℕ × ℤ)) (least i j : ℕ) → i < length ts → ascends_from least (drop i ts) ≡ true → j < (get_or ts i (0, pos 0)).0 → pos 0 ≡ coefficients (drop i ts) j
above ts least i j l h p =
    let before = coefficients_before (suc (get_or ts i (0, pos 0)).0) j (drop (i + 1) ts) (ascends_later ts least i l h) (omega (arith, p)) in
    sym (sym (later ts i j l (λ e. omega (arith, e, p))) ∙ before)
