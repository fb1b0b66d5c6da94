-- Divisors of a whole row.
use Rattle.std.specs.Prelude.{◌<◌, ℕ, ℤ, unsigned_abs}
use Rattle.std.specs.Int.{◌∣◌}

-- g is the greatest common divisor of the row's numbers at the places below n
pub record IsRowGcd (n : ℕ) (row : ℕ → ℤ) (g : ℕ) : Type 0 where
  pub divides : (j : ℕ) → j < n → g ∣ unsigned_abs (row j)
  pub greatest : (d : ℕ) → ((j : ℕ) → j < n → d ∣ unsigned_abs (row j)) → d ∣ g

-- nothing but 1 divides all the row's numbers
abbrev pub IsPrimitive : ℕ → (ℕ → ℤ) → Type 0
IsPrimitive n row = IsRowGcd n row 1
