-- A number's value is its quotient in lowest terms.
use Rattle.std.proofs.Common.{◌≡◌, ◌≢◌, ℕ, zero, suc, ◌<◌, ◌*◌, ◌/◌, Bool, true, false, ℤ, pos, neg_ℤ, ◌*ℤ◌, refl, ap, sym, ◌∙◌, subst, arith}
use Rattle.std.specs.Prelude.{unsigned_abs}
use Rattle.std.specs.Int.{IsGcd}
use Rattle.std.proofs.Math.Nat.{div-mul_cancel, one-dvd, pos_of_dvd_of_pos}
use Rattle.std.proofs.lemmas.Nat.Gcd.{IsGcd-swap}
use Rattle.std.proofs.lemmas.Int.{ints}
use Rattle.int_linear.proofs.Ring.{neg_mul}
use Rattle.fractions.specs.Fraction.{Fraction, IsReduced}
use Rattle.fractions.proofs.Reduction.{reduced_over, reduced_same}
use Rattle.fractions.specs.Lowest.{common_divisor}
use Rattle.fractions.proofs.LowestLemmas.{common_divisor_is}
use Rattle.gdp_grammar.specs.Numerals.{signed, lowest}

pub size_of_signed : (is_negative : Bool) (p : ℕ) → unsigned_abs (signed is_negative p) ≡ p
size_of_signed false p = refl
size_of_signed true zero = refl
size_of_signed true (suc p) = refl

product_of_signed : (is_negative : Bool) (p d whole : ℕ) → p * d ≡ whole → signed is_negative p *ℤ pos d ≡ signed is_negative whole
product_of_signed false p d whole e = ap pos e
product_of_signed true p d whole e = neg_mul (pos p) (pos d) ∙ ap (λ n. neg_ℤ (pos n)) e

-- the quotient in lowest terms is reduced
pub lowest_reduced : (is_negative : Bool) (p q : ℕ) → 0 < q → IsReduced (signed is_negative p) (pos q) (lowest is_negative p q)
lowest_reduced is_negative p q some =
    let d : ℕ = common_divisor p q in
    let gcd : IsGcd p q d = common_divisor_is p q in
    let positive : 0 < d = pos_of_dvd_of_pos gcd.1 some in
    let whole : pos q ≢ pos 0 = λ e. absurd (omega (arith, ints, e, some)) in
    let sized : IsGcd (unsigned_abs (pos q)) (unsigned_abs (signed is_negative p)) (unsigned_abs (pos d)) =
    subst (λ (n : ℕ). IsGcd q n d) (sym (size_of_signed is_negative p)) (IsGcd-swap p q d gcd) in
    reduced_over (signed is_negative p) (pos q) (signed is_negative (p / d)) (pos (q / d)) (pos d) whole sized
    (λ h. omega (arith, ints, positive))
    (λ h. absurd (omega (arith, ints, h)))
    (product_of_signed is_negative (p / d) d p (div-mul_cancel d gcd.0))
    (ap pos (div-mul_cancel d gcd.1))

-- a fraction in lowest terms with this value is the number's
pub lowest_only : (is_negative : Bool) (p q : ℕ) (f : Fraction) → 0 < q → IsReduced (signed is_negative p) (pos q) f → f ≡ lowest is_negative p q
lowest_only is_negative p q f some reduced = reduced_same (signed is_negative p) (pos q) f (lowest is_negative p q) reduced (lowest_reduced is_negative p q some)

-- a whole number over 1 is in lowest terms, and is the only one that is equal to it
gcd_of_one : (n : ℕ) → IsGcd n 1 1
gcd_of_one n = (one-dvd n, one-dvd 1, λ d p q. q)

whole_lowest : (n : ℤ) → IsReduced n (pos 1) (record { num = n; den = pos 1 })
whole_lowest n = record {
  divisible = λ e. cc e;
  lowest = record { positive = omega (arith, ints); coprime = gcd_of_one (unsigned_abs n) };
  same = refl;
}

pub whole_only : (n : ℤ) (f : Fraction) → IsReduced n (pos 1) f → f ≡ record { num = n; den = pos 1 }
whole_only n f reduced = reduced_same n (pos 1) f (record { num = n; den = pos 1 }) reduced (whole_lowest n)
