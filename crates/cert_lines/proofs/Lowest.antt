-- A value as it is read is in lowest terms.
use Rattle.std.proofs.Common.{◌≡◌, ℕ, zero, suc, ◌%◌, ◌<◌, ℤ, pos, Bool, true, false, not, ◌&&◌, ◌||◌, if◌then◌else◌, List, [], ◌∷◌, Option, None, Some, Ok, refl, ap, sym, subst, ◌∙◌, inl, inr, ◌⊎◌, arith}
use Rattle.std.specs.Prelude.{◌==◌, nat_le, nat_eq, unsigned_abs}
use Rattle.std.specs.Int.{IsGcd}
use Rattle.std.proofs.lemmas.Nat.Gcd.{same_from_IsGcd}
use Rattle.std.proofs.lemmas.Bool.Decides.{nat_tests}
use Rattle.std.proofs.lemmas.Int.{ints}
use Rattle.fractions.specs.Fraction.{Fraction, IsLowest, IsReduced}
use Rattle.fractions.specs.Width.{fits}
use Rattle.fractions.proofs.LowestLemmas.{common_divisor_is}
use Rattle.fractions.proofs.Reduction.{lowest_same}
use Rattle.std.proofs.Math.Nat.{one-dvd}
use Rattle.text_grammar.specs.Bytes.{front, rest}
use Rattle.text_grammar.specs.Outcomes.{◌>>=◌, refused_where, or_cause}
use Rattle.text_grammar.proofs.Bools.{both, and_true}
use Rattle.cert_grammar.specs.declared.cause.CertCause.TheVariants as cause
use Rattle.cert_grammar.specs.Claims.{is_lowest_spelling, if_lowest, behind_stroke, value_form, spelled_value}
use Rattle.cert_grammar.specs.Nodes.{◌>?>◌}
use Rattle.cert_grammar.specs.Wholes.{natural_of, whole_of}
use Rattle.fractions.specs.Lowest.{common_divisor}

-- the divisor is the greatest
pub divisor_is : (p q g : ℕ) → IsGcd p q g → g ≡ common_divisor p q
divisor_is p q g is = sym (same_from_IsGcd p q (common_divisor p q) g (common_divisor_is p q) is)

pub lowest_of : (p : ℤ) (q : ℕ) → 0 < q → common_divisor (unsigned_abs p) q ≡ 1 → IsLowest (record { num = p; den = pos q })
lowest_of p q some e = record {
  positive = omega (arith, ints, some);
  coprime = subst (λ (g : ℕ). IsGcd (unsigned_abs p) q g) e (common_divisor_is (unsigned_abs p) q);
}

-- a value as it is read is in lowest terms
value_some : (f : Fraction) (o : Option Fraction) → Ok f ≡ (or_cause cause.Form o >>= (λ v. refused_where (not (fits v.num && fits v.den)) cause.Number >>= (λ _. Ok v))) → (o ≡ Some f) × (fits f.num && fits f.den ≡ true)
value_some f None e = absurd (cc e)
value_some f (Some v) e = go (fits v.num && fits v.den) refl e
  where
    go : (b : Bool) → (fits v.num && fits v.den) ≡ b → Ok f ≡ (refused_where (not b) cause.Number >>= (λ _. Ok v)) → (Some v ≡ Some f) × (fits f.num && fits f.den ≡ true)
    go true g e = let same : f ≡ v = cc e in (ap (λ (x : Fraction). Some x) (sym same), ap (λ (x : Fraction). fits x.num && fits x.den) same ∙ g)
    go false g e = absurd (cc e)

same_one : (n : ℕ) → nat_eq n 1 ≡ true → n ≡ 1
same_one n e = grind (arith, nat_tests)

some_at_least : (n : ℕ) → nat_le 2 n ≡ true → 0 < n
some_at_least n e = grind (arith, nat_tests)

last_test : (x y z : Bool) → x ≡ true → y ≡ true → (not (x && y) || z) ≡ true → z ≡ true
last_test true true z p q e = e
last_test true false z p q e = absurd (cc q)
last_test false y z p q e = absurd (cc p)

form_lowest : (word : List ℕ) (f : Fraction) → value_form word ≡ Some f → fits f.num ≡ true → fits f.den ≡ true → IsLowest f
form_lowest word f e a b = at_over (whole_of (front (λ b. not (b == 47)) word)) (rest (λ b. not (b == 47)) word) e
  where
    at_test : (p : ℤ) (q : ℕ) (t : Bool) → is_lowest_spelling p q ≡ t → (if t then Some (record { num = p; den = pos q }) else None) ≡ Some f → IsLowest f
    at_test p q false s e = absurd (cc e)
    at_test p q true s e =
        let parts : Fraction = record { num = p; den = pos q } in
        let same : parts ≡ f = cc e in
        let tests = both (nat_le 2 q) (not (fits p && fits (pos q)) || nat_eq (common_divisor (unsigned_abs p) q) 1) s in
        let one = last_test (fits p) (fits (pos q)) (nat_eq (common_divisor (unsigned_abs p) q) 1) (ap (λ (x : Fraction). fits x.num) same ∙ a) (ap (λ (x : Fraction). fits x.den) same ∙ b) tests.1 in
        subst (λ (x : Fraction). IsLowest x) same (lowest_of p q (some_at_least q tests.0) (same_one (common_divisor (unsigned_abs p) q) one))

    at_under : (p : ℤ) (o : Option ℕ) → (o >?> (λ q. if_lowest p q)) ≡ Some f → IsLowest f
    at_under p None e = absurd (cc e)
    at_under p (Some q) e = at_test p q (is_lowest_spelling p q) refl e

    at_over : (o : Option ℤ) (r : List ℕ) → (o >?> (λ p. behind_stroke p r)) ≡ Some f → IsLowest f
    at_over None r e = absurd (cc e)
    at_over (Some p) [] e =
        let parts : Fraction = record { num = p; den = pos 1 } in
        let same : parts ≡ f = cc e in
        subst (λ (x : Fraction). IsLowest x) same (record { positive = omega (arith, ints); coprime = (one-dvd (unsigned_abs p), one-dvd 1, λ d x y. y) })
    at_over (Some p) (b ∷ bs) e = at_under p (natural_of bs) e

pub parts_lowest : (word : List ℕ) (p q : ℤ) → Ok (record { num = p; den = q }) ≡ spelled_value word → IsLowest (record { num = p; den = q })
parts_lowest word p q e =
    let f : Fraction = record { num = p; den = q } in
    let s = value_some f (value_form word) e in
    let t = both (fits p) (fits q) s.1 in
    form_lowest word f s.0 t.0 t.1

pub parts_fit : (word : List ℕ) (p q : ℤ) → Ok (record { num = p; den = q }) ≡ spelled_value word → (fits p ≡ true) × (fits q ≡ true)
parts_fit word p q e =
    let f : Fraction = record { num = p; den = q } in
    both (fits p) (fits q) (value_some f (value_form word) e).1

-- numbers in lowest terms are the parts of their fraction
pub lowest_new : (num den : ℤ) (f : Fraction) → IsLowest (record { num = num; den = den }) → IsReduced num den f → f ≡ record { num = num; den = den }
lowest_new num den f is r = let s = lowest_same f.num f.den num den r.lowest is r.same in (λ i. record { num = s.0 i; den = s.1 i })
