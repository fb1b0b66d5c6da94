-- Quotients of whole numbers in lowest terms.
use Rattle.std.specs.Prelude.{ℕ, zero, suc, ◌/◌, ℤ, pos, negsuc, neg_ℤ, ◌&&◌, unsigned_abs, if◌then◌else◌}
use Rattle.fractions.specs.Fraction.{Fraction}
use Rattle.model_tree.specs.Scaling.{is_multiple}

-- the greatest of 1, .., k that divides both numbers
unfoldable pub greatest_divisor : ℕ → ℕ → ℕ → ℕ
greatest_divisor zero a b = 1
greatest_divisor (suc k) a b = if is_multiple (suc k) a && is_multiple (suc k) b then suc k else greatest_divisor k a b

-- the greatest common divisor of a number and a positive one
abbrev pub common_divisor : ℤ → ℤ → ℕ
common_divisor number scale = greatest_divisor (unsigned_abs scale) (unsigned_abs number) (unsigned_abs scale)

-- the number of this magnitude that has the sign of another
abbrev pub signed_as : ℤ → ℕ → ℤ
signed_as (pos n) size = pos size
signed_as (negsuc n) size = neg_ℤ (pos size)

-- a number over a positive one, in lowest terms
abbrev pub over : ℤ → ℤ → Fraction
over scale number = record {
  num = signed_as number (unsigned_abs number / common_divisor number scale);
  den = pos (unsigned_abs scale / common_divisor number scale);
}
