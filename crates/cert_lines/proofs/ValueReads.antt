-- The value of an answer, as it is read.
use Rattle.std.proofs.Common.{◌≡◌, ℕ, ◌-◌, ◌^◌, ◌<◌, ◌≤◌, ℤ, pos, Bool, true, false, not, ◌&&◌, if◌then◌else◌, List, [], ◌∷◌, length, take, drop, Option, None, Some, Ok, Err, refl, ap, sym, ◌∙◌, arith}
use Rattle.std.specs.Prelude.{nat_lt, nat_le, nat_eq, unsigned_abs}
use Rattle.std.proofs.lemmas.Bool.Decides.{nat_tests}
use Rattle.std.proofs.lemmas.List.{take_rest}
use Rattle.fractions.specs.Width.{fits}
use Rattle.text_grammar.specs.Bytes.{front, rest}
use Rattle.text_grammar.specs.Digits.{value_of}
use Rattle.text_grammar.specs.Outcomes.{◌>>=◌, refused_where}
use Rattle.cert_grammar.specs.declared.cause.CertCause.TheVariants as cause
use Rattle.fractions.specs.Lowest.{common_divisor}
use Rattle.cert_grammar.specs.Claims as claims
use Rattle.cert_grammar.specs.Claims.{if_lowest, behind_stroke}
use Rattle.cert_grammar.specs.Nodes.{◌>?>◌}
use Rattle.cert_grammar.specs.Wholes.{is_exact, whole_of}
use Rattle.cert_lines.specs.declared.number.Whole.{Whole}
use Rattle.cert_lines.specs.declared.number.Whole.TheVariants as whole
use Rattle.cert_lines.specs.Reads.{whole_read}
use Rattle.cert_lines.specs.ValueReads.{is_over_byte, whole_result, quotient_result, fitting_value, quotient_at}

whole_fits : (o : Option ℤ) → whole_result (whole_read o) ≡ fitting_value (o >?> (λ p. Some (record { num = p; den = pos 1 })))
whole_fits None = refl
whole_fits (Some p) = go (fits p)
  where
    go : (b : Bool) → whole_result (if b then whole.Is p else whole.Wide) ≡ (refused_where (not (b && true)) cause.Number >>= (λ _. Ok (record { num = p; den = pos 1 })))
    go true = refl
    go false = refl

pub value_whole : (word over after : List ℕ) → over ≡ front is_over_byte word → after ≡ rest is_over_byte word → length after < 1 → whole_result (whole_read (whole_of over)) ≡ claims.spelled_value word
value_whole word over [] f r none =
    whole_fits (whole_of over) ∙ ap (λ (w : List ℕ). fitting_value (whole_of w >?> (λ p. behind_stroke p []))) f
    ∙ ap (λ (l : List ℕ). fitting_value (whole_of (front is_over_byte word) >?> (λ p. behind_stroke p l))) r
value_whole word over (b ∷ bs) f r none = absurd (omega (arith, none))

pub value_quotient : (word over after : List ℕ) → over ≡ front is_over_byte word → after ≡ rest is_over_byte word → 1 ≤ length after → quotient_at (whole_of over) (take (length after - 1) (drop 1 after)) ≡ claims.spelled_value word
value_quotient word over [] f r some = absurd (omega (arith, some))
value_quotient word over (b ∷ bs) f r some =
    ap (quotient_at (whole_of over)) (take_rest (b ∷ bs) 1)
    ∙ ap (λ (w : List ℕ). quotient_at (whole_of w) bs) f
    ∙ ap (λ (l : List ℕ). fitting_value (whole_of (front is_over_byte word) >?> (λ p. behind_stroke p l))) r

pub quotient_inexact : (o : Option ℤ) (digits : List ℕ) → is_exact digits ≡ false → quotient_at o digits ≡ Err cause.Form
quotient_inexact None digits e = refl
quotient_inexact (Some p) digits e = rw e refl

small : (q : ℕ) → nat_lt q 2 ≡ true → nat_le 2 q ≡ false
small q e = grind (arith, nat_tests)

large : (q : ℕ) → nat_lt q 2 ≡ false → nat_le 2 q ≡ true
large q e = grind (arith, nat_tests)

past : (q : ℕ) → nat_le (2 ^ 127) q ≡ true → nat_lt q (2 ^ 127) ≡ false
past q e = grind (arith, nat_tests)

within : (q : ℕ) → nat_le (2 ^ 127) q ≡ false → nat_lt q (2 ^ 127) ≡ true
within q e = grind (arith, nat_tests)

at_value : (p : ℤ) (q : ℕ) → quotient_result (if fits p then whole.Is p else whole.Wide) q ≡ fitting_value (if_lowest p q)
at_value p q = go (fits p) (nat_lt q 2) (nat_le (2 ^ 127) q) (nat_eq (common_divisor (unsigned_abs p) q) 1) refl refl refl refl
  where
    go : (f s l d : Bool) → fits p ≡ f → nat_lt q 2 ≡ s → nat_le (2 ^ 127) q ≡ l → nat_eq (common_divisor (unsigned_abs p) q) 1 ≡ d → quotient_result (if f then whole.Is p else whole.Wide) q ≡ fitting_value (if_lowest p q)
    go true true l d a b c e = rw (b, small q b) refl
    go false true l d a b c e = rw (b, small q b) refl
    go true false true d a b c e = rw (b, large q b, c, past q c, a, a, past q c) refl
    go true false false true a b c e = rw (b, large q b, c, within q c, a, e, a, within q c) refl
    go true false false false a b c e = rw (b, large q b, c, within q c, a, e) refl
    go false false l d a b c e = rw (b, large q b, a, a) refl

pub quotient_is : (o : Option ℤ) (digits : List ℕ) (q : ℕ) → is_exact digits ≡ true → q ≡ value_of digits → quotient_result (whole_read o) q ≡ quotient_at o digits
quotient_is None digits q e is = refl
quotient_is (Some p) digits q e is = at_value p q ∙ ap (λ (n : ℕ). fitting_value (if_lowest p n)) is ∙ rw e refl

huge : (n : ℕ) → 2 ^ 128 ≤ n → nat_le (2 ^ 127) n ≡ true
huge n le = grind (arith, nat_tests)

no_small : (n : ℕ) → 2 ^ 128 ≤ n → nat_lt n 2 ≡ false
no_small n le = grind (arith, nat_tests)

pub huge_none : (o : Option ℤ) (digits : List ℕ) → is_exact digits ≡ true → whole.Malformed ≡ whole_read o → quotient_at o digits ≡ Err cause.Form
huge_none o digits e r = sym (quotient_is o digits (value_of digits) e refl) ∙ ap (λ (w : Whole). quotient_result w (value_of digits)) (sym r)

pub huge_wide : (o : Option ℤ) (digits : List ℕ) → is_exact digits ≡ true → 2 ^ 128 ≤ value_of digits → whole.Wide ≡ whole_read o → quotient_at o digits ≡ Err cause.Number
huge_wide o digits e le r =
    sym (quotient_is o digits (value_of digits) e refl) ∙ ap (λ (w : Whole). quotient_result w (value_of digits)) (sym r) ∙ rw (no_small (value_of digits) le) refl

pub huge_is : (o : Option ℤ) (digits : List ℕ) (p : ℤ) → is_exact digits ≡ true → 2 ^ 128 ≤ value_of digits → whole.Is p ≡ whole_read o → quotient_at o digits ≡ Err cause.Number
huge_is o digits p e le r =
    sym (quotient_is o digits (value_of digits) e refl) ∙ ap (λ (w : Whole). quotient_result w (value_of digits)) (sym r) ∙ rw (no_small (value_of digits) le, huge (value_of digits) le) refl
