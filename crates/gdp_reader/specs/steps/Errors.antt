-- What a text answers for the error of a line.
use Rattle.std.specs.Prelude.{ℕ}
use Rattle.gdp_lines.specs.declared.fault.LineError.{LineError}
use Rattle.gdp_lines.specs.declared.fault.LineError.TheVariants.{Refused, Memory}
use Rattle.gdp_reader.specs.declared.error.ReadError.{ReadError}
use Rattle.gdp_reader.specs.declared.error.ReadError.TheVariants as text

-- the cause at this line, or that memory ran out
abbrev pub error_at : ℕ → LineError → ReadError
error_at line (Refused cause) = text.At line cause
error_at line Memory = text.Memory
