-- When the numbers that an addition or a multiplication of fractions forms all fit.
use Rattle.std.proofs.Common.{◌≡◌, ◌*ℤ◌, true, false}
use Rattle.std.specs.Prelude.{FitsSigned}
use Rattle.std.specs.Int.{w128}
use Rattle.fractions.specs.Fraction.{Fraction, sum_num, addition_fits, multiplication_fits, fraction_fits}
use Rattle.fractions.specs.Width.{fits}
use Rattle.fractions.proofs.Widths.{fits_from_range, wide_from_range}

pub addition_fits_all : (a b : Fraction) → FitsSigned w128 (a.num *ℤ b.den) → FitsSigned w128 (b.num *ℤ a.den) → FitsSigned w128 (a.den *ℤ b.den) → FitsSigned w128 (sum_num a b) → addition_fits a b ≡ true
addition_fits_all a b p q r s =
    rw (fits_from_range (a.num *ℤ b.den) p, fits_from_range (b.num *ℤ a.den) q, fits_from_range (a.den *ℤ b.den) r, fits_from_range (sum_num a b) s)

pub addition_fits_last : (a b : Fraction) → FitsSigned w128 (a.num *ℤ b.den) → FitsSigned w128 (b.num *ℤ a.den) → FitsSigned w128 (a.den *ℤ b.den) → ¬ FitsSigned w128 (sum_num a b) → addition_fits a b ≡ false
addition_fits_last a b p q r s =
    rw (fits_from_range (a.num *ℤ b.den) p, fits_from_range (b.num *ℤ a.den) q, fits_from_range (a.den *ℤ b.den) r, wide_from_range (sum_num a b) s)

pub multiplication_fits_all : (a b : Fraction) → FitsSigned w128 (a.num *ℤ b.num) → FitsSigned w128 (a.den *ℤ b.den) → multiplication_fits a b ≡ true
multiplication_fits_all a b p q = rw (fits_from_range (a.num *ℤ b.num) p, fits_from_range (a.den *ℤ b.den) q)

pub wide_num : (f : Fraction) → fits f.num ≡ false → fraction_fits f ≡ false
wide_num f e = rw e

pub wide_den : (f : Fraction) → FitsSigned w128 f.num → fits f.den ≡ false → fraction_fits f ≡ false
wide_den f n e = rw (fits_from_range f.num n, e)
