-- Fractions over the greatest common divisor are in lowest terms, and these are unique.
use Rattle.std.proofs.Common.{◌≡◌, ◌≢◌, ℕ, ℤ, pos, negsuc, neg_ℤ, zero, suc, ◌*ℤ◌, ◌<ℤ◌, ◌*◌, ◌<◌, ◌≤◌, arith, refl, ap, sym, ◌∙◌, subst}
use Rattle.std.specs.Prelude.{unsigned_abs}
use Rattle.std.specs.Int.{IsGcd, ◌∣◌}
use Rattle.std.proofs.Math.Nat.{pos_of_dvd_of_pos, dvd_of_mul-dvd-mul_right, mul-dvd-mul_right, one-dvd, dvd-mul_left}
use Rattle.std.proofs.lemmas.Nat.Gcd.{le_of_dvd, dvd_antisymm}
use Rattle.std.proofs.lemmas.Int.{ints, unsigned_abs-mul}
use Rattle.int_linear.proofs.Ring.{products, pos_cancel, mul_cancel, neg_mul}
use Rattle.fractions.specs.Fraction.{Fraction, IsLowest, IsReduced}
use Rattle.fractions.proofs.GcdLemmas.{scaled_gcd}

pub size_positive : (a : ℤ) → a ≢ pos 0 → 0 < unsigned_abs a
size_positive (pos zero) h = absurd (h refl)
size_positive (pos (suc a)) h = omega arith
size_positive (negsuc a) h = omega arith

pub gcd_positive : (a : ℤ) (b g : ℕ) → a ≢ pos 0 → IsGcd (unsigned_abs a) b g → 0 < g
gcd_positive a b g h gcd = pos_of_dvd_of_pos gcd.0 (size_positive a h)

pub divisor_not_zero : (a d : ℤ) (b : ℕ) → a ≢ pos 0 → IsGcd (unsigned_abs a) b (unsigned_abs d) → d ≢ pos 0
divisor_not_zero a d b h gcd e = let p = gcd_positive a b (unsigned_abs d) h gcd in let z : unsigned_abs d ≡ 0 = ap unsigned_abs e in omega arith

pub gcd_at_most : (a : ℤ) (b g : ℕ) → a ≢ pos 0 → IsGcd (unsigned_abs a) b g → g ≤ unsigned_abs a
gcd_at_most a b g h gcd = le_of_dvd (size_positive a h) gcd.0

-- both parts over their greatest common divisor have no common divisor left
pub coprime_parts : (num den p q d : ℤ) → den ≢ pos 0 → IsGcd (unsigned_abs den) (unsigned_abs num) (unsigned_abs d) → p *ℤ d ≡ num → q *ℤ d ≡ den → IsGcd (unsigned_abs p) (unsigned_abs q) 1
coprime_parts num den p q d h gcd e f = (
  one-dvd (unsigned_abs p),
  one-dvd (unsigned_abs q),
  λ k x y.
      dvd_of_mul-dvd-mul_right {k = unsigned_abs d} k {n = 1} (gcd_positive den (unsigned_abs num) (unsigned_abs d) h gcd)
      (subst (λ n. k * unsigned_abs d ∣ n) (let z : unsigned_abs d ≡ 1 * unsigned_abs d = omega arith in z)
      (gcd.2 (k * unsigned_abs d)
      (subst (λ n. k * unsigned_abs d ∣ n) (sym (unsigned_abs-mul q d) ∙ ap unsigned_abs f) (mul-dvd-mul_right k y (unsigned_abs d)))
      (subst (λ n. k * unsigned_abs d ∣ n) (sym (unsigned_abs-mul p d) ∙ ap unsigned_abs e) (mul-dvd-mul_right k x (unsigned_abs d))))),
)

-- a divisor with the sign of the denominator makes it positive
pub positive_part : (den q d : ℤ) → den ≢ pos 0 → (pos 0 <ℤ den → pos 0 <ℤ d) → (den <ℤ pos 0 → d <ℤ pos 0) → q *ℤ d ≡ den → pos 0 <ℤ q
positive_part (pos zero) q d h up down e = absurd (h refl)
positive_part (pos (suc n)) q d h up down e =
    let above : pos 0 <ℤ d = up (omega (arith, ints)) in
    pos_cancel d q above (simp products (omega (arith, ints)))
positive_part (negsuc n) q d h up down e =
    let under : d <ℤ pos 0 = down (omega (arith, ints)) in
    let above : pos 0 <ℤ neg_ℤ d = omega (arith, ints) in
    pos_cancel (neg_ℤ d) q above (simp products (omega (arith, ints)))

pub reduced_over : (num den p q d : ℤ) → den ≢ pos 0 → IsGcd (unsigned_abs den) (unsigned_abs num) (unsigned_abs d) → (pos 0 <ℤ den → pos 0 <ℤ d) → (den <ℤ pos 0 → d <ℤ pos 0) → p *ℤ d ≡ num → q *ℤ d ≡ den → IsReduced num den (record { num = p; den = q })
reduced_over num den p q d h gcd up down e f = record {
  divisible = h;
  lowest = record { positive = positive_part den q d h up down f; coprime = coprime_parts num den p q d h gcd e f };
  same = rw (← e, ← f) (simp products (omega (arith, ints)));
}

-- a denominator in lowest terms divides every other of the same value
pub lowest_divides : (p q r s : ℤ) → IsGcd (unsigned_abs p) (unsigned_abs q) 1 → p *ℤ s ≡ r *ℤ q → unsigned_abs q ∣ unsigned_abs s
lowest_divides p q r s gcd e =
    subst (λ n. unsigned_abs q ∣ n) (let z : unsigned_abs s * 1 ≡ unsigned_abs s = omega arith in z)
    (scaled_gcd (suc (unsigned_abs q)) (unsigned_abs p) (unsigned_abs q) (omega arith) (unsigned_abs s) (unsigned_abs q) 1 gcd
    (subst (λ n. unsigned_abs q ∣ n) (sym (unsigned_abs-mul r q) ∙ ap unsigned_abs (sym e) ∙ unsigned_abs-mul p s ∙ (let z : unsigned_abs p * unsigned_abs s ≡ unsigned_abs s * unsigned_abs p = omega arith in z)) (dvd-mul_left (unsigned_abs q) (unsigned_abs r)))
    (dvd-mul_left (unsigned_abs q) (unsigned_abs s)))

same_size : (a b : ℤ) → pos 0 <ℤ a → pos 0 <ℤ b → unsigned_abs a ≡ unsigned_abs b → a ≡ b
same_size (pos a) (pos b) x y e = ap pos e
same_size (pos a) (negsuc b) x y e = absurd (omega (arith, ints))
same_size (negsuc a) b x y e = absurd (omega (arith, ints))

-- fractions in lowest terms with one value are one fraction
pub lowest_same : (p q r s : ℤ) → IsLowest (record { num = p; den = q }) → IsLowest (record { num = r; den = s }) → p *ℤ s ≡ r *ℤ q → (p ≡ r) × (q ≡ s)
lowest_same p q r s left right e =
    let dens : q ≡ s = same_size q s left.positive right.positive (dvd_antisymm (lowest_divides p q r s left.coprime e) (lowest_divides r s p q right.coprime (sym e))) in
    let nums : q *ℤ p ≡ q *ℤ r = (let z : p *ℤ q ≡ r *ℤ q = subst (λ n. p *ℤ n ≡ r *ℤ q) (sym dens) e in simp products (omega (arith, ints))) in
    (mul_cancel q p r left.positive nums, dens)

-- a factor other than 0 can be taken away
factor_cancel : (k a b : ℤ) → k ≢ pos 0 → k *ℤ a ≡ k *ℤ b → a ≡ b
factor_cancel (pos zero) a b h e = absurd (h refl)
factor_cancel (pos (suc n)) a b h e = mul_cancel (pos (suc n)) a b (omega (arith, ints)) e
factor_cancel (negsuc n) a b h e =
    let k : pos (suc n) ≡ neg_ℤ (negsuc n) = refl in
    let turned : pos (suc n) *ℤ a ≡ pos (suc n) *ℤ b = (let z : neg_ℤ (negsuc n) *ℤ a ≡ neg_ℤ (negsuc n) *ℤ b = rw (neg_mul (negsuc n) a, neg_mul (negsuc n) b, e) in z) in
    mul_cancel (pos (suc n)) a b (omega (arith, ints)) turned

-- a quotient has one form in lowest terms
pub reduced_same : (num den : ℤ) (f g : Fraction) → IsReduced num den f → IsReduced num den g → f ≡ g
reduced_same num den f g left right =
    let l = left.same in
    let r = right.same in
    let scaled : den *ℤ (f.num *ℤ g.den) ≡ den *ℤ (g.num *ℤ f.den) = (
    let x = simp products at (ap (λ z. g.den *ℤ z) l) in
    let y = simp products at (ap (λ z. f.den *ℤ z) r) in
    simp products (omega (arith, ints))) in
    let same = lowest_same f.num f.den g.num g.den left.lowest right.lowest (factor_cancel den (f.num *ℤ g.den) (g.num *ℤ f.den) left.divisible scaled) in
    (λ i. record { num = same.0 i; den = same.1 i })
