-- Numbers as they are spelled, and their values.
use Rattle.std.specs.Prelude.{ℕ, ◌/◌, ◌^◌, ℤ, pos, neg_ℤ, Bool, ◌&&◌, nat_le, List, length, Option, None, Some, if◌then◌else◌}
use Rattle.text_grammar.specs.Digits.{value_after}
use Rattle.fractions.specs.Fraction as fraction
use Rattle.fractions.specs.Lowest.{common_divisor}

-- a whole number, a fraction or a decimal, by its digits
pub data Numeral : Type 0 where
  Whole : (digits : List ℕ) → Numeral
  Fraction : (over under : List ℕ) → Numeral
  Decimal : (digits places : List ℕ) → Numeral

-- p of a number's value p / q, before it is reduced
abbrev pub over_part : Numeral → ℕ
over_part (Whole digits) = value_after 0 digits
over_part (Fraction over under) = value_after 0 over
over_part (Decimal digits places) = value_after (value_after 0 digits) places

-- q of a number's value p / q: a decimal of k places is over 10 ^ k
abbrev pub under_part : Numeral → ℕ
under_part (Whole digits) = 1
under_part (Fraction over under) = value_after 0 under
under_part (Decimal digits places) = 10 ^ length places

-- p is at most 10 ^ 15, and q from 1 to 10 ^ 15
abbrev pub are_parts : ℕ → ℕ → Bool
are_parts p q = nat_le p (10 ^ 15) && (nat_le 1 q && nat_le q (10 ^ 15))

-- a whole number with its sign
abbrev pub signed : Bool → ℕ → ℤ
signed is_negative size = if is_negative then neg_ℤ (pos size) else pos size

-- p / q in lowest terms, with its sign
abbrev pub lowest : Bool → ℕ → ℕ → fraction.Fraction
lowest is_negative p q =
    let d = common_divisor p q in
    record { num = signed is_negative (p / d); den = pos (q / d) }

-- p / q in lowest terms with its sign, if both parts are in range
abbrev pub ratio : Bool → ℕ → ℕ → Option fraction.Fraction
ratio is_negative p q = if are_parts p q then Some (lowest is_negative p q) else None

-- the value of a number with its sign, if it is in range
abbrev pub value_of : Bool → Numeral → Option fraction.Fraction
value_of is_negative number = ratio is_negative (over_part number) (under_part number)
