-- Euclid's argument at multiples: a common divisor of k a and k b divides k times the greatest common divisor.
use Rattle.std.proofs.Common.{◌≡◌, ℕ, zero, suc, ◌+◌, ◌*◌, ◌/◌, ◌%◌, ◌<◌, arith, refl, subst, ap}
use Rattle.std.proofs.Math.Nat.{dvd-mod_iff, dvd-add_iff_right, dvd-mul_right_of_dvd}
use Rattle.std.proofs.lemmas.Nat.Gcd.{IsGcd-from_zero, same_from_IsGcd}
use Rattle.std.specs.Int.{IsGcd, ◌∣◌}

pub scaled_gcd : (fuel a b : ℕ) → b < fuel → (k d g : ℕ) → IsGcd a b g → d ∣ k * a → d ∣ k * b → d ∣ k * g
scaled_gcd zero a b h k d g gcd p q = absurd (omega arith)
scaled_gcd (suc fuel) a zero h k d g gcd p q = subst (λ n. d ∣ k * n) (same_from_IsGcd a 0 a g (IsGcd-from_zero a 0 refl) gcd) p
scaled_gcd (suc fuel) a (suc b) h k d g gcd p q =
    let f : suc b * (a / suc b) + a % suc b ≡ a = omega arith in
    let e : k * a ≡ k * suc b * (a / suc b) + k * (a % suc b) = omega (arith, ap (λ n. k * n) f) in
    let whole : d ∣ k * suc b * (a / suc b) + k * (a % suc b) = subst (λ n. d ∣ n) e p in
    let rest : d ∣ k * (a % suc b) = (dvd-add_iff_right d (dvd-mul_right_of_dvd d q (a / suc b))).1 whole in
    let smaller : a % suc b < fuel = omega arith in
    scaled_gcd fuel (suc b) (a % suc b) smaller k d g (gcd.1, (dvd-mod_iff g gcd.1).1 gcd.0, λ e x y. gcd.2 e ((dvd-mod_iff e x).0 y) x) q rest
