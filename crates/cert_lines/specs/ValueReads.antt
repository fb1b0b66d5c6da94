-- The value of an answer, as it is read.
use Rattle.std.specs.Prelude.{ℕ, ◌^◌, ◌==◌, ℤ, pos, Bool, not, ◌&&◌, nat_lt, nat_le, unsigned_abs, List, Option, Result, Ok, Err, if◌then◌else◌}
use Rattle.fractions.specs.Fraction.{Fraction}
use Rattle.fractions.specs.Width.{fits}
use Rattle.text_grammar.specs.Outcomes.{◌>>=◌, refused_where, or_cause}
use Rattle.cert_grammar.specs.declared.cause.CertCause.{CertCause}
use Rattle.cert_grammar.specs.declared.cause.CertCause.TheVariants as cause
use Rattle.fractions.specs.Lowest.{common_divisor}
use Rattle.cert_grammar.specs.Claims.{if_lowest}
use Rattle.cert_grammar.specs.Nodes.{◌>?>◌}
use Rattle.cert_grammar.specs.Wholes.{natural_of}
use Rattle.cert_lines.specs.declared.number.Whole.{Whole}
use Rattle.cert_lines.specs.declared.number.Whole.TheVariants as whole

-- what stands before a stroke
abbrev pub is_over_byte : ℕ → Bool
is_over_byte b = not (b == 47)

-- the parts of a fraction
abbrev pub fraction_of : Result (ℤ × ℤ) CertCause → Result Fraction CertCause
fraction_of (Ok p) = Ok (record { num = p.0; den = p.1 })
fraction_of (Err c) = Err c

-- a value without a stroke, of its number as it is read
abbrev pub whole_result : Whole → Result Fraction CertCause
whole_result whole.Malformed = Err cause.Form
whole_result whole.Wide = Err cause.Number
whole_result (whole.Is p) = Ok (record { num = p; den = pos 1 })

-- a value with a stroke
abbrev pub quotient_result : Whole → ℕ → Result Fraction CertCause
quotient_result whole.Malformed q = Err cause.Form
quotient_result whole.Wide q = if nat_lt q 2 then Err cause.Form else Err cause.Number
quotient_result (whole.Is p) q =
    if nat_lt q 2 then Err cause.Form
    else (if nat_le (2 ^ 127) q then Err cause.Number
    else (if common_divisor (unsigned_abs p) q == 1 then Ok (record { num = p; den = pos q }) else Err cause.Form))

-- a value whose parts fit
abbrev pub fitting_value : Option Fraction → Result Fraction CertCause
fitting_value form = do
  value ← or_cause cause.Form form
  number ← refused_where (not (fits value.num && fits value.den)) cause.Number
  Ok value

-- the value of a number and the digits behind a stroke
abbrev pub quotient_at : Option ℤ → List ℕ → Result Fraction CertCause
quotient_at over digits = fitting_value (over >?> (λ p. natural_of digits >?> (λ q. if_lowest p q)))
