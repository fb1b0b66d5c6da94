-- The lines of an answer before its nodes, as they are read.
use Rattle.std.specs.Prelude.{ℕ, ℤ, pos, int_lt, not, ◌&&◌, List, Result, Ok, Err, if◌then◌else◌}
use Rattle.fractions.specs.Width.{fits}
use Rattle.text_grammar.specs.Outcomes.{◌>>=◌, refused_where, or_cause}
use Rattle.cert_grammar.specs.declared.cause.CertCause.{CertCause}
use Rattle.cert_grammar.specs.declared.cause.CertCause.TheVariants as cause
use Rattle.cert_grammar.specs.Wholes.{whole_of}
use Rattle.cert_lines.specs.declared.number.Whole.{Whole}
use Rattle.cert_lines.specs.declared.number.Whole.TheVariants as whole

-- a denominator as it is read
abbrev pub over_result : Whole → Result ℤ CertCause
over_result whole.Malformed = Err cause.Form
over_result whole.Wide = Err cause.Number
over_result (whole.Is z) = if int_lt (pos 0) z then Ok z else Err cause.Number

-- the denominator that a word spells, at least 1 and in range
abbrev pub over_of : List ℕ → Result ℤ CertCause
over_of word = do
  z ← or_cause cause.Form (whole_of word)
  number ← refused_where (not (int_lt (pos 0) z && fits z)) cause.Number
  Ok z
