-- One pass over the entries of a row.
use Rattle.std.specs.Prelude.{◌≡◌, ◌≢◌, ◌<◌, ℕ, ℤ, pos, ◌-ℤ◌, ◌*ℤ◌, ◌<ℤ◌, unsigned_abs}
use Rattle.int_linear.specs.Divisors.{IsPrimitive}

-- the row over a positive divisor of all its numbers, so that nothing but 1 divides them
pub record IsPrimitivePart (n : ℕ) (before now : ℕ → ℤ) : Type 0 where
  pub divisor : ℤ
  pub divided : pos 0 <ℤ divisor
  pub each : (j : ℕ) → j < n → divisor *ℤ now j ≡ before j
  pub primitive : IsPrimitive n now

-- each number is a times the old one less b times the pivot's
pub record IsStepped (n : ℕ) (a b : ℤ) (before pivot now : ℕ → ℤ) : Type 0 where
  pub each : (j : ℕ) → j < n → now j ≡ a *ℤ before j -ℤ b *ℤ pivot j

-- divisor times each number is the old one
pub record IsDivided (n : ℕ) (divisor : ℤ) (before now : ℕ → ℤ) : Type 0 where
  pub each : (j : ℕ) → j < n → divisor *ℤ now j ≡ before j

-- each number is the other row's, with this sign
pub record IsCopy (n : ℕ) (sign : ℤ) (before now : ℕ → ℤ) : Type 0 where
  pub each : (j : ℕ) → j < n → now j ≡ sign *ℤ before j

-- some number of the row is not 0
pub record HasEntry (n : ℕ) (row : ℕ → ℤ) : Type 0 where
  pub column : ℕ
  pub within : column < n
  pub entry : row column ≢ pos 0

-- some number of the row is 1 or -1
pub record HasOne (n : ℕ) (row : ℕ → ℤ) : Type 0 where
  pub column : ℕ
  pub within : column < n
  pub one : unsigned_abs (row column) ≡ 1
