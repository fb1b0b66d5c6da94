-- When a text spells a point of a model, and where it first goes wrong.
use Rattle.std.specs.Prelude.{ℕ, Bool, List}
use Rattle.text_grammar.specs.Grammars.{Grammar, SpellsBy, IsFirstBadBy}
use Rattle.text_grammar.specs.Lines.{lines_of}
use Rattle.lp_rows.specs.Points.{PointValue}
use Rattle.model_tree.specs.Values.{ModelTree}
use Rattle.gdp_grammar.specs.declared.cause.ReadCause.{ReadCause}
use Rattle.gdp_grammar.specs.PointReading.{PointTaken, no_point_taken, with_point_line, point_after}

-- the grammar of the point texts of a model: each gives numbers over a denominator, and truth values
abbrev pub point_grammar : ModelTree → Grammar (List ℕ) PointTaken (PointValue × List Bool) ReadCause
point_grammar m = record { start = no_point_taken m; step = λ line taken bytes. with_point_line m taken bytes; finish = point_after }

-- The text spells the point of the model: a number for each variable over the denominator, and which Booleans are true.
abbrev pub SpellsPoint : ModelTree → List ℕ → PointValue → List Bool → Type 0
SpellsPoint m text point truths = SpellsBy (point_grammar m) (lines_of text) (point, truths)

-- the first bad line of a point text of the model, or its end, and the cause
abbrev pub IsFirstBadOfPoint : ModelTree → List ℕ → ℕ → ReadCause → Type 0
IsFirstBadOfPoint m text line cause = IsFirstBadBy (point_grammar m) (lines_of text) line cause
