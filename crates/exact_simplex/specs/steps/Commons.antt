-- One step towards the common denominator of a column's values.
use Rattle.std.specs.Prelude.{◌≤◌, ◌^◌, ℕ, ℤ, pos, ◌<ℤ◌, unsigned_abs}
use Rattle.std.specs.Int.{◌∣◌}
use Rattle.fractions.specs.Divisors.{IsLcm}
use Rattle.simplex_rows.specs.Width.{IsFactors}

-- the least common multiple of over and the reduced denominator of a value
pub record IsNextCommon (over own_entry side next : ℤ) : Type 0 where
  pub positive : pos 0 <ℤ next
  pub den : ℤ
  pub num : ℤ
  pub value : IsFactors own_entry side den num
  pub common : IsLcm (unsigned_abs over) (unsigned_abs den) (unsigned_abs next)

-- it is past 128 bits
pub record IsNextWide (over own_entry side : ℤ) : Type 0 where
  pub den : ℤ
  pub num : ℤ
  pub value : IsFactors own_entry side den num
  pub multiple : ℕ
  pub wide : 2 ^ 127 ≤ multiple
  pub common : IsLcm (unsigned_abs over) (unsigned_abs den) multiple

-- the value's reduced denominator divides over
pub record DividesOver (own_entry side over : ℤ) : Type 0 where
  pub each : (den num : ℤ) → IsFactors own_entry side den num → unsigned_abs den ∣ unsigned_abs over
