-- The computed quotient is in lowest terms, and no other fraction in lowest terms has its value.
use Rattle.std.proofs.Common.{◌≡◌, ◌≢◌, ℕ, zero, suc, ◌<◌, ◌%◌, ℤ, pos, ◌<ℤ◌, arith, refl}
use Rattle.std.specs.Prelude.{unsigned_abs, int_div}
use Rattle.std.specs.Int.{IsGcd}
use Rattle.std.proofs.Math.Nat.{mod-lt}
use Rattle.std.proofs.lemmas.Nat.Gcd.{IsGcd-from_zero, IsGcd-from_mod, IsGcd-swap}
use Rattle.std.proofs.lemmas.Int.{ints}
use Rattle.fractions.specs.Fraction.{Fraction, IsReduced}
use Rattle.fractions.specs.Lowest.{common_divisor_within, common_divisor, lowest}
use Rattle.fractions.proofs.Division.{quot_exact}
use Rattle.fractions.proofs.Reduction.{gcd_positive, reduced_over, reduced_same}

divisor_within : (n p q : ℕ) → q < n → IsGcd p q (common_divisor_within n p q)
unfolding common_divisor_within
divisor_within zero p q room = absurd (omega (arith, room))
divisor_within (suc n) p zero room = IsGcd-from_zero p zero refl
divisor_within (suc n) p (suc q) room =
    let shorter : p % suc q < suc q = mod-lt p (omega arith) in
    IsGcd-from_mod p (suc q) (common_divisor_within n (suc q) (p % suc q)) (divisor_within n (suc q) (p % suc q) (omega (arith, room, shorter)))

-- Euclid's rule gives the greatest common divisor
pub common_divisor_is : (p q : ℕ) → IsGcd p q (common_divisor p q)
unfolding common_divisor
common_divisor_is p q = divisor_within (suc q) p q (omega arith)

pub lowest_reduced : (num den : ℤ) → pos 0 <ℤ den → IsReduced num den (lowest num den)
lowest_reduced num den some =
    let a = unsigned_abs num in
    let b = unsigned_abs den in
    let d = common_divisor a b in
    let gcd : IsGcd a b d = common_divisor_is a b in
    let swapped : IsGcd b a d = IsGcd-swap a b d gcd in
    let other : den ≢ pos 0 = λ e. omega (arith, ints, e, some) in
    let above : 0 < d = gcd_positive den a d other swapped in
    reduced_over num den (int_div num (pos d)) (int_div den (pos d)) (pos d) other swapped
    (λ up. omega (arith, ints, above))
    (λ down. absurd (omega (arith, ints, some, down)))
    (quot_exact num (pos d) gcd.0)
    (quot_exact den (pos d) gcd.1)

-- the fraction that a quotient is in lowest terms
pub lowest_only : (num den : ℤ) (f : Fraction) → pos 0 <ℤ den → IsReduced num den f → f ≡ lowest num den
lowest_only num den f some reduced = reduced_same num den f (lowest num den) reduced (lowest_reduced num den some)
