-- A builder takes the rows and the goal.
use Rattle.std.proofs.Common.{◌≡◌, ℕ, suc, ◌+◌, ◌*◌, ◌^◌, ◌<◌, ◌≤◌, pos, Bool, true, false, List, [], ◌∷◌, ◌++◌, length, Option, None, Some, Ok, nat_le, nat_lt, nat_eq, refl, ap, sym, ◌∙◌, subst, arith}
use Rattle.std.specs.Prelude.{is_ok, is_some, Result, Err, IfOk}
use Rattle.std.proofs.lemmas.Bool.Decides.{nat_tests}
use Rattle.fractions.specs.Fraction.{Fraction}
use Rattle.lp_rows.specs.declared.kinds.Rel.TheVariants.{AtMost}
use Rattle.lp_rows.specs.Holding.{ids_below}
use Rattle.lp_rows.specs.Rows.{RowValue, row_refusal}
use Rattle.model_builder.specs.Building.{BuildingValue, OpenDisjunction, refusal_of_row, row_outcome, rows_so_far}
use Rattle.model_builder.specs.Nesting.{close_outcome, open_disjunct_outcome, with_disjunct}
use Rattle.model_tree.specs.declared.errors.BuildError.{BuildError}
use Rattle.model_tree.specs.declared.errors.BuildError.TheVariants.{Place, Limit}
use Rattle.model_tree.specs.Scaling.{refusal_of_terms, stored_row}
use Rattle.outcomes.specs.Calls.{refuse_if, unless}
use Rattle.gdp_grammar.specs.Canonical.{terms_over}
use Rattle.gdp_grammar.specs.Lowest.{over}
use Rattle.gdp_grammar.proofs.FormsGiven.{row_whole, terms_pass}
use Rattle.gdp_grammar.proofs.Scales.{scale_again, scaled_again, stored_again}
use Rattle.model_maker.specs.declared.choices.PairRow.{PairRow}
use Rattle.model_maker.specs.Generated.{pair_row, whole}
use Rattle.model_maker.specs.Steps.{IsAccepted, as_fractions, row_of, CanTake, with_alternative}
use Rattle.model_maker.proofs.Whole.{over_one, fractions_over}

-- a row of whole numbers that may be stored is taken where a block is open
abbrev appended : BuildingValue → RowValue → ℕ → BuildingValue
appended b r line = record b { inner = record b.inner { rows = b.inner.rows ++ (r, line) ∷ [] } }

stored_whole : (r : RowValue) → row_refusal r.terms r.right ≡ None → stored_row (terms_over (pos 1) r.terms) r.rel (over (pos 1) r.right) ≡ r
stored_whole r stored =
    let w = row_whole r stored in
    rw (scale_again 1 r.terms r.right w.some w.least, stored_again 1 r.terms w.some w.ascends, scaled_again 1 r.right w.some) refl

row_over : (b : BuildingValue) (line : ℕ) (r : RowValue) → b.opened ≡ None → row_refusal r.terms r.right ≡ None → ids_below (length b.vars) r.terms ≡ true → nat_le 1000 (rows_so_far b) ≡ false
    → row_outcome (terms_over (pos 1) r.terms) r.rel (over (pos 1) r.right) line b ≡ (Ok tt, appended b r line)
row_over b line r place stored ids few =
    let ts : List (ℕ × Fraction) = terms_over (pos 1) r.terms in
    let limit : Option BuildError = refuse_if (nat_le 1000 (rows_so_far b)) Limit None in
    let refusal : refusal_of_row ts (over (pos 1) r.right) b ≡ None =
    ap (λ (t : Bool). refuse_if t Place (refusal_of_terms (ids_below (length b.vars) ts) ts (over (pos 1) r.right) limit)) (ap is_some place)
    ∙ terms_pass (length b.vars) 1 r.terms r.right limit (row_whole r stored) ids ∙ ap (λ (t : Bool). refuse_if t Limit None) few in
    ap (λ (x : Option BuildError). unless x b tt (appended b (stored_row ts r.rel (over (pos 1) r.right)) line)) refusal
    ∙ ap (λ (s : RowValue). (Ok tt, appended b s line)) (stored_whole r stored)

pub row_taken : (b : BuildingValue) (line : ℕ) (r : RowValue) → b.opened ≡ None → row_refusal r.terms r.right ≡ None → ids_below (length b.vars) r.terms ≡ true → nat_le 1000 (rows_so_far b) ≡ false
    → row_outcome (as_fractions r.terms) r.rel (record { num = r.right; den = pos 1 }) line b ≡ (Ok tt, appended b r line)
row_taken b line r place stored ids few =
    subst (λ (ts : List (ℕ × Fraction)). row_outcome ts r.rel (record { num = r.right; den = pos 1 }) line b ≡ (Ok tt, appended b r line)) (sym (fractions_over r.terms))
    (subst (λ (f : Fraction). row_outcome (terms_over (pos 1) r.terms) r.rel f line b ≡ (Ok tt, appended b r line)) (over_one r.right) (row_over b line r place stored ids few))

-- the row over a pair
pair_stored : (i p q r : ℕ) → 1 ≤ p → p ≤ 100 → 1 ≤ q → q ≤ 100 → r ≤ 100 → row_refusal (pair_row i p q r).terms (pos r) ≡ None
pair_stored i p q r p0 p1 q0 q1 r1 =
    let a : nat_le 0 (2 * i) ≡ true = grind (arith, nat_tests) in
    let b : nat_le (suc (2 * i)) (2 * i + 1) ≡ true = grind (arith, nat_tests) in
    let c : nat_eq p 0 ≡ false = grind (arith, nat_tests) in
    let d : nat_eq q 0 ≡ false = grind (arith, nat_tests) in
    let e : nat_le p (10 ^ 15) ≡ true = grind (arith, nat_tests) in
    let f : nat_le q (10 ^ 15) ≡ true = grind (arith, nat_tests) in
    let g : nat_le r (10 ^ 15) ≡ true = grind (arith, nat_tests) in
    rw (a, b, c, d, e, f, g) refl

pair_below : (n i p q r : ℕ) → 2 * i + 1 < n → ids_below n (pair_row i p q r).terms ≡ true
pair_below n i p q r lt =
    let a : nat_lt (2 * i) n ≡ true = grind (arith, nat_tests) in
    let b : nat_lt (2 * i + 1) n ≡ true = grind (arith, nat_tests) in
    rw (a, b) refl

-- a disjunct is opened, its row added, and it is closed
pub disjunct_opened : (name : List ℕ) (line : ℕ) (row : PairRow) (b : BuildingValue) (d : OpenDisjunction) → CanTake name row b d
    → open_disjunct_outcome name line b ≡ (Ok (length b.booleans), with_disjunct name line b d)
disjunct_opened name line row b d can =
    let few : nat_le 200 (length b.booleans) ≡ false = grind (arith, nat_tests, can.few_booleans) in
    rw (can.opened, can.new, can.root, few, can.named) refl

few_rows : (n : ℕ) → n < 1000 → nat_le 1000 n ≡ false
few_rows n h = grind (arith, nat_tests)

abbrev pub with_row : (name : List ℕ) (line : ℕ) → RowValue → BuildingValue → OpenDisjunction → BuildingValue
with_row name line row b d =
    let o = with_disjunct name line b d in
    record o { inner = record o.inner { rows = (row, line + 1) ∷ [] } }

pub disjunct_filled : (name : List ℕ) (line : ℕ) (row : PairRow) (b : BuildingValue) (d : OpenDisjunction) → CanTake name row b d
    → row_outcome (as_fractions (row_of row).terms) AtMost (whole row.right) (line + 1) (with_disjunct name line b d) ≡ (Ok tt, with_row name line (row_of row) b d)
disjunct_filled name line row b d can =
    let s = can.small in
    let few : rows_so_far (with_disjunct name line b d) < 1000 = rw can.root (omega (arith, can.few_rows)) in
    row_taken (with_disjunct name line b d) (line + 1) (row_of row) refl (pair_stored row.pair row.first row.second row.right s.first s.first_small s.second s.second_small s.right_small)
    (pair_below (length b.vars) row.pair row.first row.second row.right can.declared) (few_rows (rows_so_far (with_disjunct name line b d)) few)

pub disjunct_closed : (name : List ℕ) (line : ℕ) (row : RowValue) (b : BuildingValue) (d : OpenDisjunction)
    → close_outcome (with_row name line row b d) ≡ (Ok tt, with_alternative name line row b d)
disjunct_closed name line row b d = refl

-- the three calls, one after the other
pub row_accepted : (name : List ℕ) (line : ℕ) (row : PairRow) (b b1 : BuildingValue) (d : OpenDisjunction) (ts : List (ℕ × Fraction)) → CanTake name row b d
    → b1 ≡ (open_disjunct_outcome name line b).1 → ts ≡ as_fractions (row_of row).terms → IsAccepted (row_outcome ts AtMost (whole row.right) (line + 1) b1)
row_accepted name line row b b1 d ts can opened terms =
    let is : b1 ≡ with_disjunct name line b d = opened ∙ ap (λ (o : Result ℕ BuildError × BuildingValue). o.1) (disjunct_opened name line row b d can) in
    let same : row_outcome ts AtMost (whole row.right) (line + 1) b1 ≡ (Ok tt, with_row name line (row_of row) b d) =
    ap (λ (x : BuildingValue). row_outcome ts AtMost (whole row.right) (line + 1) x) is
    ∙ ap (λ (t : List (ℕ × Fraction)). row_outcome t AtMost (whole row.right) (line + 1) (with_disjunct name line b d)) terms ∙ disjunct_filled name line row b d can in
    ap (λ (o : Result (Unit {0}) BuildError × BuildingValue). is_ok o.0) same

pub alternative_added : (name : List ℕ) (line : ℕ) (row : PairRow) (b b1 b2 : BuildingValue) (d e : OpenDisjunction) (ts : List (ℕ × Fraction)) → CanTake name row b d → b.opened ≡ Some e
    → b1 ≡ (open_disjunct_outcome name line b).1 → ts ≡ as_fractions (row_of row).terms → b2 ≡ (row_outcome ts AtMost (whole row.right) (line + 1) b1).1
    → (close_outcome b2).1 ≡ with_alternative name line (row_of row) b e
alternative_added name line row b b1 b2 d e ts can is_open opened terms filled =
    let some : Some d ≡ Some e = sym can.opened ∙ is_open in
    let one : d ≡ e = cc some in
    let is : b1 ≡ with_disjunct name line b d = opened ∙ ap (λ (o : Result ℕ BuildError × BuildingValue). o.1) (disjunct_opened name line row b d can) in
    let same : row_outcome ts AtMost (whole row.right) (line + 1) b1 ≡ (Ok tt, with_row name line (row_of row) b d) =
    ap (λ (x : BuildingValue). row_outcome ts AtMost (whole row.right) (line + 1) x) is
    ∙ ap (λ (t : List (ℕ × Fraction)). row_outcome t AtMost (whole row.right) (line + 1) (with_disjunct name line b d)) terms ∙ disjunct_filled name line row b d can in
    let last : b2 ≡ with_row name line (row_of row) b d = filled ∙ ap (λ (o : Result (Unit {0}) BuildError × BuildingValue). o.1) same in
    ap (λ (x : BuildingValue). (close_outcome x).1) last ∙ ap (λ (x : OpenDisjunction). with_alternative name line (row_of row) b x) one

-- a fact behind an answer that leads to another
pub if_ok : {A E : Type 0} (r : Result A E) (P Q : Type 0) → (P → Q) → IfOk r (λ _. P) → IfOk r (λ _. Q)
if_ok (Ok x) P Q f p = f p
if_ok (Err e) P Q f p = tt
