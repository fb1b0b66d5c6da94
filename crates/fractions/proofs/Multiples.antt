-- The least common multiple is one number times the other over their greatest common divisor.
use Rattle.std.proofs.Common.{◌≡◌, ◌≢◌, ℤ, pos, negsuc, suc, ◌*ℤ◌, ◌<ℤ◌, ◌*◌, ◌≤◌, ◌^◌, arith, ap, sym, ◌∙◌, subst, inl, inr}
use Rattle.std.proofs.lemmas.Bool.{cases_lt}
use Rattle.std.specs.Prelude.{unsigned_abs, FitsSigned}
use Rattle.std.specs.Int.{IsGcd, ◌∣◌, w128}
use Rattle.std.proofs.Math.Nat.{dvd-mul_right, mul-dvd-mul_left, mul-dvd-mul_right, dvd_of_mul-dvd-mul_right}
use Rattle.std.proofs.lemmas.Int.{ints, unsigned_abs-mul}
use Rattle.int_linear.proofs.Ring.{mul_pos, pos_cancel}
use Rattle.fractions.specs.Divisors.{IsLcm}
use Rattle.fractions.proofs.Reduction.{gcd_positive}
use Rattle.fractions.proofs.GcdLemmas.{scaled_gcd}

pub lcm_is : (a b d q : ℤ) → b ≢ pos 0 → IsGcd (unsigned_abs b) (unsigned_abs a) (unsigned_abs d) → q *ℤ d ≡ b → IsLcm (unsigned_abs a) (unsigned_abs b) (unsigned_abs (a *ℤ q))
lcm_is a b d q h gcd e =
    let x = unsigned_abs a in
    let y = unsigned_abs b in
    let g = unsigned_abs d in
    let k = unsigned_abs q in
    let size : unsigned_abs (a *ℤ q) ≡ unsigned_abs a * unsigned_abs q = unsigned_abs-mul a q in
    let parts : unsigned_abs b ≡ unsigned_abs q * unsigned_abs d = sym (ap unsigned_abs e) ∙ unsigned_abs-mul q d in
    record {
      first = subst (λ n. x ∣ n) (sym size) (dvd-mul_right x k);
      second = subst (λ n. y ∣ n) (sym size)
          (subst (λ n. n ∣ x * k) (sym parts)
          (subst (λ n. k * g ∣ n) (let z : unsigned_abs q * unsigned_abs a ≡ unsigned_abs a * unsigned_abs q = omega arith in z) (mul-dvd-mul_left g k gcd.1)));
      least = λ n p r.
          subst (λ m. m ∣ n) (sym size)
          (dvd_of_mul-dvd-mul_right {k = g} (x * k) {n = n} (gcd_positive b x g h gcd)
          (subst (λ m. m ∣ n * g) (let z : unsigned_abs a * unsigned_abs b ≡ unsigned_abs a * unsigned_abs q * unsigned_abs d = omega (arith, ap (λ m. unsigned_abs a * m) parts) in z)
          (scaled_gcd (suc x) y x (omega arith) n (x * y) g gcd
          (mul-dvd-mul_right x p y)
          (subst (λ m. m ∣ n * x) (let z : unsigned_abs b * unsigned_abs a ≡ unsigned_abs a * unsigned_abs b = omega arith in z) (mul-dvd-mul_right y r x)))));
    }

pub lcm_positive : (a b d q : ℤ) → pos 0 <ℤ a → pos 0 <ℤ b → pos 0 <ℤ d → q *ℤ d ≡ b → pos 0 <ℤ (a *ℤ q)
lcm_positive a b d q x y z e = mul_pos a q x (pos_cancel d q z (omega (arith, ints)))

pub wide_positive : (z : ℤ) → pos 0 <ℤ z → ¬ FitsSigned w128 z → (2 ^ 127) ≤ unsigned_abs z
wide_positive (pos n) p h = elim (cases_lt n (2 ^ 127)) [ inl l ↦ absurd (h (record { sfits = l })) | inr g ↦ g ]
wide_positive (negsuc n) p h = absurd (omega (arith, ints))
