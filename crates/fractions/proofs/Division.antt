-- Division of whole numbers: exact, and rounded down with a remainder that is not negative.
use Rattle.std.proofs.Common.{◌≡◌, ℤ, pos, negsuc, neg_ℤ, zero, suc, ◌+ℤ◌, ◌*ℤ◌, ◌≤ℤ◌, ◌<ℤ◌, ◌+◌, ◌*◌, ◌/◌, ◌%◌, ◌<◌, arith, ap}
use Rattle.std.specs.Prelude.{unsigned_abs, int_div, int_rem}
use Rattle.std.specs.Int.{int_div_euclid, int_rem_euclid, ◌∣◌}
use Rattle.std.proofs.lemmas.Int.{ints, quot-rem}
use Rattle.std.proofs.lemmas.Nat.Gcd.{mod-eq-zero_of_dvd}

-- a divisor leaves no remainder
pub rem_exact : (a d : ℤ) → unsigned_abs d ∣ unsigned_abs a → int_rem a d ≡ pos 0
rem_exact (pos a) d h = ap pos (mod-eq-zero_of_dvd (unsigned_abs d) h)
rem_exact (negsuc a) d h = ap (λ n. neg_ℤ (pos n)) (mod-eq-zero_of_dvd (unsigned_abs d) h)

pub quot_exact : (a d : ℤ) → unsigned_abs d ∣ unsigned_abs a → int_div a d *ℤ d ≡ a
quot_exact a d h = let e = quot-rem a d in let z = rem_exact a d h in omega (arith, ints)

-- the quotient rounded down, with its remainder
pub record IsDivided (a b quotient rest : ℤ) : Type 0 where
  pub whole : a ≡ quotient *ℤ b +ℤ rest
  pub low : pos 0 ≤ℤ rest
  pub high : rest <ℤ b

pub divided : (a b : ℤ) → pos 0 <ℤ b → IsDivided a b (int_div_euclid a b) (int_rem_euclid a b)
divided (pos a) (pos (suc b)) h =
    let e : suc b * (a / suc b) + a % suc b ≡ a = omega arith in
    let m : a % suc b < suc b = omega arith in
    record { whole = omega (arith, ints); low = omega (arith, ints); high = omega (arith, ints) }
divided (negsuc a) (pos (suc b)) h =
    let e : suc b * (a / suc b) + a % suc b ≡ a = omega arith in
    let m : a % suc b < suc b = omega arith in
    record { whole = omega (arith, ints); low = omega (arith, ints); high = omega (arith, ints) }
divided a (pos zero) h = absurd (omega (arith, ints))
divided a (negsuc b) h = absurd (omega (arith, ints))
