-- What the reader of a model text has taken, and what it answers.
use Rattle.std.specs.Prelude.{◌≡◌, ℕ, List, Result, Ok, Err}
use Rattle.model_builder.specs.Standing.{stands_for}
use Rattle.model_tree.specs.Values.{ModelTree, ModelValue, model_tree}
use Rattle.gdp_grammar.specs.declared.cause.ReadCause.{ReadCause}
use Rattle.gdp_grammar.specs.Reading.{Taken}
use Rattle.gdp_grammar.specs.Spelling.{IsFirstBad}
use Rattle.gdp_reader.specs.declared.model.Taking.{Taking}
use Rattle.gdp_reader.specs.declared.error.ReadError.{ReadError}
use Rattle.gdp_reader.specs.declared.error.ReadError.TheVariants.{At, Memory}

-- what the lines so far gave
abbrev pub taken_of : Taking → Taken
taken_of t = record { headed = t.is_headed; building = stands_for t.builder }

-- the error tells this line and cause, or memory ran out
abbrev pub Tells : {Y : Type 0} → ReadError → Result Y (ℕ × ReadCause) → Type 0
Tells Memory read = Unit {0}
Tells (At line cause) read = read ≡ Err (line, cause)

-- What reading a text returned, seen by view, is what its lines give, unless memory ran out.
abbrev pub GivesText : {X Y : Type 0} → (X → Y) → Result X ReadError → Result Y (ℕ × ReadCause) → Type 0
GivesText view (Ok x) read = read ≡ Ok (view x)
GivesText view (Err error) read = Tells error read

-- the text was read as this model, or memory ran out
abbrev pub IsReadAs : ModelTree → Result ModelValue ReadError → Type 0
IsReadAs m (Ok read) = model_tree read ≡ m
IsReadAs m (Err Memory) = Unit {0}
IsReadAs m (Err (At line cause)) = ⊥

-- the text was refused at its first bad line, with its cause, or memory ran out
abbrev pub IsRefused : List ℕ → ReadError → Type 0
IsRefused text Memory = Unit {0}
IsRefused text (At line cause) = IsFirstBad text line cause
