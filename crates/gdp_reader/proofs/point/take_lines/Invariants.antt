use Rattle.std.proofs.Common.{◌≡◌, ◌+◌, ◌≤◌, length}
use Rattle.model_tree.specs.Values.{model_tree}
use Rattle.text_grammar.specs.Grammars.{follow_by}
use Rattle.text_grammar.specs.Lines.{lines_of}
use Rattle.gdp_grammar.specs.PointReading.{no_point_taken}
use Rattle.gdp_grammar.specs.Points.{point_grammar}
use Rattle.gdp_reader.specs.PointTaking.{point_taken_of}
use Rattle.gdp_reader.proofs.point.take_lines.Given as goal

abbrev pub invariant-lines : goal.invariant-lines
invariant-lines l = record {
  model : l.taking.model.now ≡ l.model;
  small : l.lines + length l.rest ≤ length l.text;
  counted : l.lines + length (lines_of l.rest) ≡ length (lines_of l.text);
  follows : follow_by (point_grammar (model_tree l.model)) (l.lines + 1) (point_taken_of l.taking) (lines_of l.rest) ≡ follow_by (point_grammar (model_tree l.model)) 1 (no_point_taken (model_tree l.model)) (lines_of l.text);
}

abbrev pub decreases-lines : goal.decreases-lines
decreases-lines l = length l.rest
