-- Divisors and multiples. The greatest common divisor is std's `IsGcd`.
use Rattle.std.specs.Prelude.{ℕ}
use Rattle.std.specs.Int.{◌∣◌}

-- m is the least common multiple of a and b: a multiple of both, which divides every other
pub record IsLcm (a b m : ℕ) : Type 0 where
  pub first : a ∣ m
  pub second : b ∣ m
  pub least : (n : ℕ) → a ∣ n → b ∣ n → m ∣ n
