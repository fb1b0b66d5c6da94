-- Fractions of whole numbers: lowest terms, equal values, and the numbers that arithmetic forms.
use Rattle.std.specs.Prelude.{◌≡◌, ◌≢◌, ℤ, pos, ◌+ℤ◌, ◌-ℤ◌, ◌*ℤ◌, ◌<ℤ◌, ◌≤ℤ◌, Bool, ◌&&◌, unsigned_abs}
use Rattle.std.specs.Int.{IsGcd}
use Rattle.fractions.specs.Width.{fits}

-- a numerator over a denominator
pub record Fraction : Type 0 where
  pub num : ℤ
  pub den : ℤ

-- in lowest terms: the denominator is positive, and only 1 divides both parts
pub record IsLowest (f : Fraction) : Type 0 where
  pub positive : pos 0 <ℤ f.den
  pub coprime : IsGcd (unsigned_abs f.num) (unsigned_abs f.den) 1

-- f is num / den in lowest terms
pub record IsReduced (num den : ℤ) (f : Fraction) : Type 0 where
  pub divisible : den ≢ pos 0
  pub lowest : IsLowest f
  pub same : f.num *ℤ den ≡ num *ℤ f.den

-- both parts are in the range of i128
abbrev pub fraction_fits : Fraction → Bool
fraction_fits f = fits f.num && fits f.den

-- the numerator of a sum over the product of the denominators
abbrev pub sum_num : Fraction → Fraction → ℤ
sum_num a b = a.num *ℤ b.den +ℤ b.num *ℤ a.den

-- the four numbers that an addition forms are in the range of i128
abbrev pub addition_fits : Fraction → Fraction → Bool
addition_fits a b = fits (a.num *ℤ b.den) && fits (b.num *ℤ a.den) && fits (a.den *ℤ b.den) && fits (sum_num a b)

-- the two numbers that a multiplication forms are in the range of i128
abbrev pub multiplication_fits : Fraction → Fraction → Bool
multiplication_fits a b = fits (a.num *ℤ b.num) && fits (a.den *ℤ b.den)

-- z is the greatest whole number that is at most f
pub record IsFloor (f : Fraction) (z : ℤ) : Type 0 where
  pub below : (z *ℤ f.den) ≤ℤ f.num
  pub greatest : f.num <ℤ ((z +ℤ pos 1) *ℤ f.den)

-- z is the least whole number that is at least f
pub record IsCeiling (f : Fraction) (z : ℤ) : Type 0 where
  pub above : f.num ≤ℤ (z *ℤ f.den)
  pub least : ((z -ℤ pos 1) *ℤ f.den) <ℤ f.num
