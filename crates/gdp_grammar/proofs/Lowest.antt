-- A quotient in lowest terms is one.
use Rattle.std.proofs.Common.{◌≡◌, ◌≢◌, ℕ, zero, suc, ◌/◌, ◌^◌, ◌<◌, ◌≤◌, ℤ, pos, negsuc, neg_ℤ, ◌*ℤ◌, ◌<ℤ◌, Bool, true, false, ◌&&◌, inl, inr, refl, ap, sym, subst, ◌∙◌, arith}
use Rattle.std.specs.Prelude.{unsigned_abs, FitsSigned}
use Rattle.std.specs.Int.{IsGcd, ◌∣◌, w128}
use Rattle.std.proofs.lemmas.Bool.{cond-true, cond-false, cases_eq}
use Rattle.std.proofs.lemmas.Bool.Decides.{nat_tests}
use Rattle.std.proofs.lemmas.Int.{ints}
use Rattle.std.proofs.lemmas.Nat.Gcd.{le_of_dvd, IsGcd-swap}
use Rattle.std.proofs.Math.Nat.{one-dvd, pos_of_dvd_of_pos, div-mul_cancel, div-le_self}
use Rattle.int_linear.proofs.Divisors.{has_gcd}
use Rattle.fractions.specs.Fraction.{Fraction, IsReduced, fraction_fits}
use Rattle.fractions.specs.Width.{fits}
use Rattle.fractions.proofs.Reduction.{reduced_over, reduced_same}
use Rattle.model_tree.specs.Scaling.{is_multiple}
use Rattle.model_tree.proofs.ScalingLemmas.{divides, is_divided}
use Rattle.gdp_grammar.specs.Lowest.{greatest_divisor, common_divisor, signed_as, over}
use Rattle.int_linear.proofs.Ring.{neg_mul}
use Rattle.text_grammar.proofs.Bools.{told}

-- what the search down from k finds: a common divisor that no other up to k exceeds
record IsGreatest (k a b d : ℕ) : Type 0 where
  left : d ∣ a
  right : d ∣ b
  most : (c : ℕ) → c ≤ k → c ∣ a → c ∣ b → c ≤ d

both_parts : (a b : Bool) → (a && b) ≡ true → (a ≡ true) × (b ≡ true)
both_parts true b e = (refl, e)
both_parts false b e = absurd (cc e)

greatest : (k a b : ℕ) → IsGreatest k a b (greatest_divisor k a b)
unfolding greatest_divisor
greatest zero a b = record { left = one-dvd a; right = one-dvd b; most = λ c le p q. omega (arith, le) }
greatest (suc k) a b = elim (told (is_multiple (suc k) a && is_multiple (suc k) b)) [
  | inl e ↦
      let found : greatest_divisor (suc k) a b ≡ suc k = cond-true (is_multiple (suc k) a && is_multiple (suc k) b) _ _ e in
      let parts = both_parts (is_multiple (suc k) a) (is_multiple (suc k) b) e in
      subst (λ d. IsGreatest (suc k) a b d) (sym found)
      (record { left = divides (suc k) a parts.0; right = divides (suc k) b parts.1; most = λ c le p q. le })
  | inr e ↦
      let below : greatest_divisor (suc k) a b ≡ greatest_divisor k a b = cond-false (is_multiple (suc k) a && is_multiple (suc k) b) _ _ e in
      let g = greatest k a b in
      subst (λ d. IsGreatest (suc k) a b d) (sym below)
      (record {
        left = g.left;
        right = g.right;
        most = λ c le p q. elim (cases_eq c (suc k)) [
          | inl same ↦
              let l : is_multiple (suc k) a ≡ true = is_divided (suc k) a (subst (λ n. n ∣ a) same p) in
              let r : is_multiple (suc k) b ≡ true = is_divided (suc k) b (subst (λ n. n ∣ b) same q) in
              let t : (is_multiple (suc k) a && is_multiple (suc k) b) ≡ true = ap (λ x. x && is_multiple (suc k) b) l ∙ r in
              absurd (cc (t, e))
          | inr other ↦ g.most c (omega (arith, le, other)) p q
        ];
      })
]

-- the greatest divisor of a number and a positive one is their greatest common divisor
pub greatest_is_gcd : (a b : ℕ) → 0 < b → IsGcd a b (greatest_divisor b a b)
greatest_is_gcd a b some =
    let g = has_gcd (suc b) a b (omega arith) in
    let d = greatest b a b in
    let whole : IsGcd a b g.0 = (g.1.left, g.1.right, λ k p q. subst (λ n. k ∣ n) (omega arith) (g.1.scaled 1 k (subst (λ n. k ∣ n) (omega arith) p) (subst (λ n. k ∣ n) (omega arith) q))) in
    let g_some : 0 < g.0 = pos_of_dvd_of_pos g.1.right some in
    let up : g.0 ≤ greatest_divisor b a b = d.most g.0 (le_of_dvd some g.1.right) g.1.left g.1.right in
    let down : greatest_divisor b a b ≤ g.0 = le_of_dvd g_some (whole.2 (greatest_divisor b a b) d.left d.right) in
    let same : g.0 ≡ greatest_divisor b a b = omega (arith, up, down) in
    subst (λ n. IsGcd a b n) same whole

-- a number over one of its divisors, times that divisor
pub signed_times : (number : ℤ) (d : ℕ) → 0 < d → d ∣ unsigned_abs number → signed_as number (unsigned_abs number / d) *ℤ pos d ≡ number
signed_times (pos n) d some p = ap pos (div-mul_cancel d p)
signed_times (negsuc n) d some p = neg_mul (pos (suc n / d)) (pos d) ∙ ap (λ x. neg_ℤ (pos x)) (div-mul_cancel d p)

pub over_reduced : (scale number : ℤ) → pos 0 <ℤ scale → IsReduced number scale (over scale number)
over_reduced (pos zero) number positive = absurd (omega (arith, ints, positive))
over_reduced (negsuc s) number positive = absurd (omega (arith, ints, positive))
over_reduced (pos (suc s)) number positive =
    let g : ℕ = common_divisor number (pos (suc s)) in
    let gcd : IsGcd (unsigned_abs number) (suc s) g = greatest_is_gcd (unsigned_abs number) (suc s) (omega arith) in
    let some : 0 < g = pos_of_dvd_of_pos gcd.1 (omega arith) in
    let other : pos (suc s) ≢ pos 0 = λ e. absurd (omega (arith, ints, e)) in
    reduced_over number (pos (suc s)) (signed_as number (unsigned_abs number / g)) (pos (suc s / g)) (pos g) other
    (IsGcd-swap (unsigned_abs number) (suc s) g gcd)
    (λ up. omega (arith, ints, some)) (λ down. absurd (omega (arith, ints, down)))
    (signed_times number g some gcd.0)
    (ap pos (div-mul_cancel g gcd.1))

fits_natural : (n most : ℕ) → n ≤ most → most < 2 ^ 127 → fits (pos n) ≡ true
fits_natural n most le lt = grind (arith, nat_tests)

fits_negative : (n most : ℕ) → n ≤ suc most → most < 2 ^ 127 → fits (neg_ℤ (pos n)) ≡ true
fits_negative zero most le lt = grind (arith, nat_tests)
fits_negative (suc n) most le lt = grind (arith, nat_tests)

fits_signed : (number : ℤ) (d : ℕ) → FitsSigned w128 number → fits (signed_as number (unsigned_abs number / d)) ≡ true
fits_signed (pos n) d h = let s = h.sfits in fits_natural (n / d) n (div-le_self n d) (omega (arith, s))
fits_signed (negsuc n) d h = let s = h.sfits in fits_negative (suc n / d) n (div-le_self (suc n) d) (omega (arith, s))

pub over_fits : (scale number : ℤ) → pos 0 <ℤ scale → FitsSigned w128 scale → FitsSigned w128 number → fraction_fits (over scale number) ≡ true
over_fits (pos s) number positive f h =
    let t = f.sfits in
    let den : fits (pos (s / common_divisor number (pos s))) ≡ true = fits_natural (s / common_divisor number (pos s)) s (div-le_self s (common_divisor number (pos s))) (omega (arith, t)) in
    ap (λ x. x && fits (pos (s / common_divisor number (pos s)))) (fits_signed number (common_divisor number (pos s)) h) ∙ den
over_fits (negsuc s) number positive f h = absurd (omega (arith, ints, positive))

-- the fraction that a quotient is in lowest terms
pub over_only : (scale number : ℤ) (f : Fraction) → pos 0 <ℤ scale → IsReduced number scale f → f ≡ over scale number
over_only scale number f positive reduced = reduced_same number scale f (over scale number) reduced (over_reduced scale number positive)
