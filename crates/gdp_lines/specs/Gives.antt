-- What a reader answers, against what is read.
use Rattle.std.specs.Prelude.{◌≡◌, Result, Ok, Err}
use Rattle.gdp_grammar.specs.declared.cause.ReadCause.{ReadCause}
use Rattle.gdp_lines.specs.declared.fault.LineError.{LineError}
use Rattle.gdp_lines.specs.declared.fault.LineError.TheVariants.{Refused, Memory}

-- the error is the cause of what is read, or memory ran out
abbrev pub Fails : {Y : Type 0} → LineError → Result Y ReadCause → Type 0
Fails Memory read = Unit {0}
Fails (Refused cause) read = read ≡ Err cause

-- What a reader returned, seen by view, is what is read, unless memory ran out.
abbrev pub Gives : {X Y : Type 0} → (X → Y) → Result X LineError → Result Y ReadCause → Type 0
Gives view (Ok x) read = read ≡ Ok (view x)
Gives view (Err error) read = Fails error read
