-- What the reader of a point text has taken, and what it answers.
use Rattle.std.specs.Prelude.{◌≡◌, ℕ, Bool, List, Result, Ok, Err}
use Rattle.lp_rows.specs.Points.{PointValue}
use Rattle.model_tree.specs.declared.points.ModelPoint.{ModelPoint}
use Rattle.model_tree.specs.Values.{ModelTree}
use Rattle.gdp_grammar.specs.PointReading.{PointTaken}
use Rattle.gdp_grammar.specs.Points.{IsFirstBadOfPoint}
use Rattle.gdp_reader.specs.declared.error.ReadError.{ReadError}
use Rattle.gdp_reader.specs.declared.error.ReadError.TheVariants.{At, Memory}
use Rattle.gdp_reader.specs.declared.point_taking.PointTaking.{PointTaking}

-- what the lines so far gave
abbrev pub point_taken_of : PointTaking → PointTaken
point_taken_of t = record { headed = t.is_headed; over = t.over; numbers = t.numbers.items; truths = t.truths.items; ended = t.is_ended }

-- the numbers over their denominator, and the truth values
abbrev pub point_parts : ModelPoint → PointValue × List Bool
point_parts p = (p.at, p.truths)

-- the text was read as this point, or memory ran out
abbrev pub IsPointReadAs : PointValue → List Bool → Result ModelPoint ReadError → Type 0
IsPointReadAs at truths (Ok read) = (read.at ≡ at) × (read.truths ≡ truths)
IsPointReadAs at truths (Err Memory) = Unit {0}
IsPointReadAs at truths (Err (At line cause)) = ⊥

-- the text was refused at its first bad line, with its cause, or memory ran out
abbrev pub IsPointRefused : ModelTree → List ℕ → ReadError → Type 0
IsPointRefused m text Memory = Unit {0}
IsPointRefused m text (At line cause) = IsFirstBadOfPoint m text line cause
