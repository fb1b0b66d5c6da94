-- What texts that are read answer.
use Rattle.std.specs.Prelude.{◌≡◌, ◌<◌, ℕ, Bool, List, length, Some}
use Rattle.lp_rows.specs.Points.{PointValue}
use Rattle.model_tree.specs.Values.{ModelTree}
use Rattle.gdp_grammar.specs.Spelling.{Spells, IsFirstBad}
use Rattle.gdp_grammar.specs.Points.{SpellsPoint, IsFirstBadOfPoint}
use Rattle.gdp_io.specs.Shelf.{Contents}
use Rattle.gdp_commands.specs.declared.status.Status.TheVariants.{Text}
use Rattle.gdp_commands.specs.Messages.{refused_at}
use Rattle.gdp_commands.specs.Table.{Answer, Parsed}

-- the text has more bytes than this
abbrev pub IsLonger : ℕ → List ℕ → Type 0
IsLonger limit text = limit < length text

-- the text passes the limit on the text of a model or a point
abbrev pub IsLong : List ℕ → Type 0
IsLong text = IsLonger 8388608 text

-- the text passes the limit on the text of an answer
abbrev pub IsLongAnswer : List ℕ → Type 0
IsLongAnswer text = IsLonger 1099511627776 text

-- where the contents behind the name are revealed, they have more bytes than this
abbrev pub IsLongerBehind : ℕ → Contents → List ℕ → Type 0
IsLongerBehind limit contents name = (all : List ℕ) → contents name ≡ Some all → IsLonger limit all

-- what the text of a model answers: its first bad line, or else as below for the model that it spells
abbrev pub ModelSays : (name text : List ℕ) → (ModelTree → Answer) → Answer
ModelSays name text below = Parsed (IsFirstBad text) Text (refused_at name) (Spells text) below

-- the text spells this point of the model: its numbers and its truth values
abbrev pub IsPoint : ModelTree → List ℕ → PointValue × List Bool → Type 0
IsPoint m text p = SpellsPoint m text p.0 p.1

-- what the text of a point of the model answers: its first bad line, or else as below for the point that it spells
abbrev pub PointSays : ModelTree → (name text : List ℕ) → (PointValue × List Bool → Answer) → Answer
PointSays m name text below = Parsed (IsFirstBadOfPoint m text) Text (refused_at name) (IsPoint m text) below
