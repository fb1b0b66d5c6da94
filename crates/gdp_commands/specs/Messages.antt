-- The texts that the program writes.
use Rattle.std.specs.Prelude.{ℕ, List, [], ◌∷◌, ◌++◌, codes}
use Rattle.std.specs.Fmt.{decimal}
use Rattle.gdp_grammar.specs.declared.cause.ReadCause.{ReadCause}
use Rattle.gdp_grammar.specs.declared.cause.ReadCause.TheVariants as cause

-- a text with a newline at its end
abbrev pub line : List ℕ → List ℕ
line text = text ++ 10 ∷ []

-- the text behind a name was not read
abbrev pub read_fault : List ℕ → List ℕ
read_fault name = line (codes "read fault: " ++ name)

-- the text behind a name passes its limit
abbrev pub too_long : List ℕ → List ℕ
too_long name = line (name ++ codes ": too long")

-- the name of a cause
abbrev pub cause_name : ReadCause → List ℕ
cause_name cause.Header = codes "Header"
cause_name cause.Form = codes "Form"
cause_name cause.NameTwice = codes "NameTwice"
cause_name cause.NameUnknown = codes "NameUnknown"
cause_name cause.Number = codes "Number"
cause_name cause.Nesting = codes "Nesting"
cause_name cause.Unclosed = codes "Unclosed"
cause_name cause.Limit = codes "Limit"
cause_name cause.Missing = codes "Missing"

-- the text behind a name is refused at this line for what is written behind it
abbrev pub refused_for : List ℕ → ℕ → List ℕ → List ℕ
refused_for name number why = line (name ++ codes ": line " ++ decimal number ++ codes ": " ++ why)

-- the text of a model or of a point is refused for this cause
abbrev pub refused_at : List ℕ → ℕ → ReadCause → List ℕ
refused_at name number cause = refused_for name number (cause_name cause)

-- the verdict on a point
abbrev pub holds : List ℕ
holds = line (codes "holds")

abbrev pub fails_at : ℕ → List ℕ
fails_at mark = line (codes "fails at line " ++ decimal mark)

abbrev pub wide_at : ℕ → List ℕ
wide_at mark = line (codes "wide at line " ++ decimal mark)

-- a bound of the variable with this name is missing, at the line of what needs it
abbrev pub no_bound_at : ℕ → List ℕ → List ℕ
no_bound_at mark name = line (codes "no bound at line " ++ decimal mark ++ codes " for " ++ name)

-- a number of a relaxed row passes 10^15, at the line of the row
abbrev pub too_wide_at : ℕ → List ℕ
too_wide_at mark = line (codes "too wide at line " ++ decimal mark)

-- a limit on columns or rows would be passed
abbrev pub too_big : List ℕ
too_big = line (codes "too big")
