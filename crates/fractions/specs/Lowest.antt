-- The quotient of two whole numbers in lowest terms, as it is computed.
use Rattle.std.specs.Prelude.{ℕ, zero, suc, ◌%◌, ℤ, pos, unsigned_abs, int_div}
use Rattle.fractions.specs.Fraction.{Fraction}

-- the greatest common divisor, by at most n remainders
unfoldable pub common_divisor_within : ℕ → ℕ → ℕ → ℕ
common_divisor_within zero p q = p
common_divisor_within (suc n) p zero = p
common_divisor_within (suc n) p (suc q) = common_divisor_within n (suc q) (p % suc q)

-- the greatest common divisor, by Euclid's rule
unfoldable pub common_divisor : ℕ → ℕ → ℕ
common_divisor p q = common_divisor_within (suc q) p q

-- a number over a positive one, in lowest terms
abbrev pub lowest : ℤ → ℤ → Fraction
lowest num den =
    let divisor = pos (common_divisor (unsigned_abs num) (unsigned_abs den)) in
    record { num = int_div num divisor; den = int_div den divisor }
