use Rattle.std.proofs.Common.{ℕ, ◌≤◌, subst, arith}
use Rattle.std.specs.Int.{IsGcd, ◌∣◌}
use Rattle.std.proofs.lemmas.Nat.Gcd.{le_of_dvd}
use Rattle.lp_tokens.proofs.value.divisor.Goals as goal

pub overflow_cast-result : goal.overflow_cast-result
overflow_cast-result c =
    let divides : c.gcd_of_magnitudes.result ∣ c.args.q = subst (λ (n : ℕ). c.gcd_of_magnitudes.result ∣ n) c.from-2.ensures c.gcd_of_magnitudes.ensures.1 in
    let within : c.gcd_of_magnitudes.result ≤ c.args.q = le_of_dvd c.requires divides in
    let fits = c.ranges.q.fits in
    omega (arith, within, fits)

pub returns : goal.returns
returns c =
    subst (λ (n : ℕ). IsGcd n c.args.q c.gcd_of_magnitudes.result) c.from.ensures
    (subst (λ (n : ℕ). IsGcd c.from.result n c.gcd_of_magnitudes.result) c.from-2.ensures c.gcd_of_magnitudes.ensures)
