-- Quotients in lowest terms: one for each value, with a denominator that grows as digits come before.
use Rattle.std.proofs.Common.{◌≡◌, ◌≢◌, ℕ, zero, suc, ◌<◌, ◌≤◌, ◌+◌, ◌*◌, ◌/◌, pos, ap, sym, subst, arith}
use Rattle.std.specs.Prelude.{unsigned_abs}
use Rattle.std.specs.Int.{IsGcd, ◌∣◌}
use Rattle.std.proofs.Math.Nat.{div-mul_cancel, pos_of_dvd_of_pos, le_of_mul-le-mul_left, dvd-add_iff_right, dvd-mul_left}
use Rattle.std.proofs.lemmas.Nat.Gcd.{IsGcd-swap, same_from_IsGcd, le_of_dvd}
use Rattle.std.proofs.lemmas.Int.{ints}
use Rattle.fractions.specs.Fraction.{Fraction, IsReduced}
use Rattle.fractions.proofs.Reduction.{reduced_over, reduced_same}
use Rattle.fractions.proofs.GcdLemmas.{scaled_gcd}
use Rattle.lp_grammar.specs.Scaling.{divisor_of, lowest}
use Rattle.lp_grammar.proofs.Scales.{divisor_is}
use Rattle.lp_tokens.specs.Quotients.{reduced}

pub cancel : (k a b : ℕ) → 0 < k → k * a ≡ k * b → a ≡ b
cancel k a b some e =
    let le : a ≤ b = le_of_mul-le-mul_left {m = a} {n = b} {k = k} (omega (arith, e)) some in
    let ge : b ≤ a = le_of_mul-le-mul_left {m = b} {n = a} {k = k} (omega (arith, e)) some in
    omega (arith, le, ge)

-- the parts over a greatest common divisor
pub reduced_by : (over under g : ℕ) → IsGcd over under g → (over / g, under / g) ≡ reduced over under
unfolding reduced
reduced_by over under g gcd = ap (λ (d : ℕ). (over / d, under / d)) (same_from_IsGcd over under g (divisor_of over under) gcd (divisor_is over under))

pub divisor_some : (over under g : ℕ) → 0 < under → IsGcd over under g → 0 < g
divisor_some over under g some gcd = pos_of_dvd_of_pos gcd.1 some

factor_some : (q g : ℕ) → 0 < q * g → 0 < q
factor_some zero g p = absurd (omega (arith, p))
factor_some (suc q) g p = omega arith

pub under_some : (over under g : ℕ) → 0 < under → IsGcd over under g → 0 < under / g
under_some over under g some gcd = factor_some (under / g) g (omega (arith, some, div-mul_cancel g gcd.1))

pub stays_bounded : (over under g : ℕ) → 0 < under → IsGcd over under g → over ≤ 100 * under → over / g ≤ 100 * (under / g)
stays_bounded over under g some gcd bound =
    let a : over / g * g ≡ over = div-mul_cancel g gcd.0 in
    let b : under / g * g ≡ under = div-mul_cancel g gcd.1 in
    le_of_mul-le-mul_left {m = over / g} {n = 100 * (under / g)} {k = g} (omega (arith, a, b, bound)) (divisor_some over under g some gcd)

-- the parts of a quotient in lowest terms
pub record AreLowest (over under n m : ℕ) : Type 0 where
  pub some : 0 < m
  pub coprime : IsGcd n m 1
  pub same : n * under ≡ over * m

lowest_reduced : (p q : ℕ) → 0 < q → IsReduced (pos p) (pos q) (lowest (pos p) q)
lowest_reduced p q some =
    let d : ℕ = divisor_of p q in
    let gcd : IsGcd p q d = divisor_is p q in
    let positive : 0 < d = pos_of_dvd_of_pos gcd.1 some in
    let whole : pos q ≢ pos 0 = λ e. absurd (omega (arith, ints, e, some)) in
    reduced_over (pos p) (pos q) (pos (p / d)) (pos (q / d)) (pos d) whole (IsGcd-swap p q d gcd)
    (λ h. omega (arith, ints, positive))
    (λ h. absurd (omega (arith, ints, h)))
    (ap pos (div-mul_cancel d gcd.0))
    (ap pos (div-mul_cancel d gcd.1))

pub are_lowest : (p q : ℕ) → 0 < q → AreLowest p q (reduced p q).0 (reduced p q).1
unfolding reduced
are_lowest p q some =
    let r = lowest_reduced p q some in
    record {
      some = under_some p q (divisor_of p q) some (divisor_is p q);
      coprime = r.lowest.coprime;
      same = ap unsigned_abs r.same;
    }

pub lowest_only : (p q : ℕ) (f : Fraction) → 0 < q → IsReduced (pos p) (pos q) f → f ≡ lowest (pos p) q
lowest_only p q f some r = reduced_same (pos p) (pos q) f (lowest (pos p) q) r (lowest_reduced p q some)

-- quotients of one value have one form in lowest terms
pub lowest_same : (a b c d : ℕ) → 0 < b → 0 < d → a * d ≡ c * b → lowest (pos a) b ≡ lowest (pos c) d
unfolding reduced
lowest_same a b c d left right e =
    let r = lowest_reduced a b left in
    let n : ℕ = (reduced a b).0 in
    let m : ℕ = (reduced a b).1 in
    let s : n * b ≡ a * m = ap unsigned_abs r.same in
    let t : n * d ≡ c * m = cancel b (n * d) (c * m) left (omega (arith, ap (λ (x : ℕ). x * d) s, ap (λ (x : ℕ). x * m) e)) in
    lowest_only c d (lowest (pos a) b) right (record { divisible = λ z. absurd (omega (arith, ints, z, right)); lowest = r.lowest; same = ap pos t })

pub reduced_one : (a b c d : ℕ) → 0 < b → 0 < d → a * d ≡ c * b → reduced a b ≡ reduced c d
unfolding reduced
reduced_one a b c d left right e = ap (λ (f : Fraction). (unsigned_abs f.num, unsigned_abs f.den)) (lowest_same a b c d left right e)

-- a denominator is no less with a digit, or with a whole number, before
pub den_grows : (d k v t : ℕ) → 0 < t → 0 < k → (reduced v t).1 ≤ (reduced (d * t + v) (k * t)).1
den_grows d k v t some factor =
    let wide : 0 < k * t = several k t factor some in
    let f = are_lowest v t some in
    let g = are_lowest (d * t + v) (k * t) wide in
    let n : ℕ = (reduced v t).0 in
    let m : ℕ = (reduced v t).1 in
    let x : ℕ = (reduced (d * t + v) (k * t)).0 in
    let y : ℕ = (reduced (d * t + v) (k * t)).1 in
    let e : n * t ≡ v * m = f.same in
    let h : x * (k * t) ≡ (d * t + v) * y = g.same in
    let cross : d * y * m + n * y ≡ k * x * m = cancel t (d * y * m + n * y) (k * x * m) some (omega (arith, ap (λ (z : ℕ). z * y) e, ap (λ (z : ℕ). z * m) h)) in
    let total : m ∣ d * y * m + n * y = subst (λ (z : ℕ). m ∣ z) (sym cross) (dvd-mul_left m (k * x)) in
    let part : m ∣ n * y = (dvd-add_iff_right m {m = d * y * m} {n = n * y} (dvd-mul_left m (d * y))).1 total in
    let scaled : m ∣ y * 1 = scaled_gcd (suc m) n m (omega arith) y m 1 f.coprime (subst (λ (z : ℕ). m ∣ z) (turned n y) part) (dvd-mul_left m y) in
    le_of_dvd g.some (subst (λ (z : ℕ). m ∣ z) (once y) scaled)
  where
    several : (k t : ℕ) → 0 < k → 0 < t → 0 < k * t
    several (suc k) (suc t) p q = omega arith
    several zero t p q = absurd (omega (arith, p))
    several (suc k) zero p q = absurd (omega (arith, q))

    turned : (n y : ℕ) → n * y ≡ y * n
    turned n y = omega arith

    once : (y : ℕ) → y * 1 ≡ y
    once y = omega arith

-- the numerator of a quotient is no less than a whole number in it
pub num_grows : (d v t : ℕ) → 0 < t → d ≤ (reduced (d * t + v) t).0
num_grows d v t some =
    let g = are_lowest (d * t + v) t some in
    let x : ℕ = (reduced (d * t + v) t).0 in
    let y : ℕ = (reduced (d * t + v) t).1 in
    let h : x * t ≡ (d * t + v) * y = g.same in
    le_of_mul-le-mul_left {m = d} {n = x} {k = t} (wider d v x t y g.some h) some
  where
    wider : (d v x t y : ℕ) → 0 < y → x * t ≡ (d * t + v) * y → t * d ≤ t * x
    wider d v x t zero p e = absurd (omega (arith, p))
    wider d v x t (suc y) p e = omega (arith, e)
