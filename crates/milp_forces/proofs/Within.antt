-- A program within its builder's limits is within a simplex's.
use Rattle.std.proofs.Common.{◌≡◌, ◌≤◌, ◌+◌, ℕ, ℤ, true, ◌&&◌, nat_le, List, [], ◌∷◌, length, refl, arith}
use Rattle.std.specs.List.{list_all}
use Rattle.std.proofs.lemmas.Bool.Decides.{nat_tests}
use Rattle.lp_rows.specs.declared.columns.Col.{Col}
use Rattle.lp_rows.specs.declared.columns.Sign.{Sign}
use Rattle.lp_rows.specs.declared.columns.Sign.TheVariants.{Free, Nonneg}
use Rattle.lp_rows.specs.Holding.{ids_below}
use Rattle.lp_rows.specs.Rows.{RowValue, ascends_from, is_storable, are_storable}
use Rattle.lp_frame.specs.Force.{are_terms}
use Rattle.fractions.specs.Width.{is_narrow}
use Rattle.lp_frame.specs.Split.{place}
use Rattle.milps.proofs.Columned.{and_true, and_left, and_right}
use Rattle.milps.specs.Building.{IsWithin, are_kept, is_row_kept, width, width_of, rows_height, bounds_height}
use Rattle.milps.specs.Milps.{MilpValue}
use Rattle.lp_frame.specs.Split as frame
use Rattle.milp_forces.specs.Milps.{is_fit, is_row_fit}

same_width : (s : Sign) → frame.width_of s ≡ width_of s
same_width Free = refl
same_width Nonneg = refl

places : (cs : List Col) → place cs (length cs) ≡ width cs
places [] = refl
places (c ∷ cs) = let a = same_width c.sign in let b = places cs in omega arith

le_is : (a b : ℕ) → a ≤ b → nat_le a b ≡ true
le_is a b h = grind (arith, nat_tests)

narrow : (z : ℤ) → is_storable z ≡ true → is_narrow z ≡ true
narrow z h = grind (arith, nat_tests)

all_narrow : (ts : List (ℕ × ℤ)) → are_storable ts ≡ true → list_all (λ t. is_narrow t.1) ts ≡ true
all_narrow [] h = refl
all_narrow (t ∷ ts) h =
    and_true (is_narrow t.1) (list_all (λ t. is_narrow t.1) ts) (narrow t.1 (and_left (is_storable t.1) (are_storable ts) h)) (all_narrow ts (and_right (is_storable t.1) (are_storable ts) h))

terms_are : (n : ℕ) (ts : List (ℕ × ℤ)) → are_kept n ts ≡ true → are_terms n ts ≡ true
terms_are n ts h =
    and_true (ascends_from 0 ts && ids_below n ts) (list_all (λ t. is_narrow t.1) ts)
    (and_left (ascends_from 0 ts && ids_below n ts) (are_storable ts) h) (all_narrow ts (and_right (ascends_from 0 ts && ids_below n ts) (are_storable ts) h))

rows_fit : (n : ℕ) (rs : List RowValue) → list_all (λ r. is_row_kept n r) rs ≡ true → list_all (λ r. is_row_fit r) rs ≡ true
rows_fit n [] h = refl
rows_fit n (r ∷ rs) h =
    let a = and_left (is_row_kept n r) (list_all (λ r. is_row_kept n r) rs) h in
    let b = and_left (are_kept n r.terms) (is_storable r.right) a in
    and_true (is_row_fit r) (list_all (λ r. is_row_fit r) rs)
    (and_true (list_all (λ t. is_narrow t.1) r.terms) (is_narrow r.right)
    (all_narrow r.terms (and_right (ascends_from 0 r.terms && ids_below n r.terms) (are_storable r.terms) b))
    (narrow r.right (and_right (are_kept n r.terms) (is_storable r.right) a)))
    (rows_fit n rs (and_right (is_row_kept n r) (list_all (λ r. is_row_kept n r) rs) h))

rows_are : (n : ℕ) (rs : List RowValue) → list_all (λ r. is_row_kept n r) rs ≡ true → list_all (λ r. are_terms n r.terms) rs ≡ true
rows_are n [] h = refl
rows_are n (r ∷ rs) h =
    let a = and_left (is_row_kept n r) (list_all (λ r. is_row_kept n r) rs) h in
    and_true (are_terms n r.terms) (list_all (λ r. are_terms n r.terms) rs)
    (terms_are n r.terms (and_left (are_kept n r.terms) (is_storable r.right) a))
    (rows_are n rs (and_right (is_row_kept n r) (list_all (λ r. is_row_kept n r) rs) h))

pub within_fit : (m : MilpValue) → IsWithin m → is_fit m ≡ true
within_fit m w =
    let n = length m.cols in
    let few : rows_height m.rows + bounds_height m.cols ≤ 4000 = let h = w.few_rows in omega arith in
    let narrow : place m.cols n ≤ 4000 = let e = places m.cols in let h = w.few_cols in omega arith in
    and_true (nat_le (rows_height m.rows + bounds_height m.cols) 4000 && nat_le (place m.cols n) 4000 && list_all (λ r. is_row_fit r) m.rows && list_all (λ r. are_terms n r.terms) m.rows) (are_terms n m.goal)
    (and_true (nat_le (rows_height m.rows + bounds_height m.cols) 4000 && nat_le (place m.cols n) 4000 && list_all (λ r. is_row_fit r) m.rows) (list_all (λ r. are_terms n r.terms) m.rows)
    (and_true (nat_le (rows_height m.rows + bounds_height m.cols) 4000 && nat_le (place m.cols n) 4000) (list_all (λ r. is_row_fit r) m.rows)
    (and_true (nat_le (rows_height m.rows + bounds_height m.cols) 4000) (nat_le (place m.cols n) 4000) (le_is (rows_height m.rows + bounds_height m.cols) 4000 few) (le_is (place m.cols n) 4000 narrow))
    (rows_fit n m.rows w.rows)) (rows_are n m.rows w.rows)) (terms_are n m.goal w.goal)
