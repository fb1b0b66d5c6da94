-- The parts of the test of a standard form, for those who read one.
use Rattle.std.proofs.Common.{◌≡◌, ◌≤◌, true, ◌&&◌, length, ℤ, arith, nat_le}
use Rattle.std.specs.List.{list_all}
use Rattle.std.proofs.lemmas.Bool.Decides.{nat_tests}
use Rattle.fractions.specs.Width.{IsNarrow, is_narrow}
use Rattle.lp_frame.specs.Force.{are_terms, is_row}
use Rattle.lp_frame.specs.Standard.{Standard, is_standard}
use Rattle.lp_frame.proofs.Both.{first, second}

pub form_few_rows : (form : Standard) → is_standard form ≡ true → length form.rows ≤ 4000
form_few_rows form h =
    let a = nat_le (length form.rows) 4000 in
    let b = nat_le form.columns 4000 in
    let d = list_all (is_row form.columns) form.rows in
    let f = first a b (first (a && b) d (first (a && b && d) (are_terms form.columns form.goal) h)) in
    grind (arith, nat_tests)

pub form_few_columns : (form : Standard) → is_standard form ≡ true → form.columns ≤ 4000
form_few_columns form h =
    let a = nat_le (length form.rows) 4000 in
    let b = nat_le form.columns 4000 in
    let d = list_all (is_row form.columns) form.rows in
    let f = second a b (first (a && b) d (first (a && b && d) (are_terms form.columns form.goal) h)) in
    grind (arith, nat_tests)

pub form_rows : (form : Standard) → is_standard form ≡ true → list_all (is_row form.columns) form.rows ≡ true
form_rows form h =
    let a = nat_le (length form.rows) 4000 in
    let b = nat_le form.columns 4000 in
    let d = list_all (is_row form.columns) form.rows in
    second (a && b) d (first (a && b && d) (are_terms form.columns form.goal) h)

pub form_goal : (form : Standard) → is_standard form ≡ true → are_terms form.columns form.goal ≡ true
form_goal form h =
    let a = nat_le (length form.rows) 4000 in
    let b = nat_le form.columns 4000 in
    let d = list_all (is_row form.columns) form.rows in
    second (a && b && d) (are_terms form.columns form.goal) h

pub narrow_from_test : (z : ℤ) → is_narrow z ≡ true → IsNarrow z
narrow_from_test z h = grind (arith, nat_tests)
