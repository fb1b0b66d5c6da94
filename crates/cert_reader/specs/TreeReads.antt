-- How a reader of lines answers.
use Rattle.std.specs.Prelude.{◌≡◌, Result, Ok, Err}
use Rattle.cert_grammar.specs.declared.cause.CertCause.{CertCause}
use Rattle.cert_reader.specs.declared.fault.LineFault.{LineFault}
use Rattle.cert_reader.specs.declared.fault.LineFault.TheVariants as fault

-- the fault is the cause of what is read, or that memory ran out
abbrev pub Fails : {Y : Type 0} → LineFault → Result Y CertCause → Type 0
Fails fault.Memory read = Unit {0}
Fails (fault.Refused cause) read = read ≡ Err cause

-- what was taken is what is read, unless memory ran out
abbrev pub LineGives : {X Y : Type 0} → Result X LineFault → Result Y CertCause → Y → Type 0
LineGives (Ok x) read after = read ≡ Ok after
LineGives (Err error) read after = Fails error read
