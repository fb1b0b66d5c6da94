use Rattle.std.proofs.Common.{◌≡◌, ◌+◌, ◌≤◌, length}
use Rattle.text_grammar.specs.Grammars.{follow_by}
use Rattle.text_grammar.specs.Lines.{lines_of}
use Rattle.gdp_grammar.specs.Spelling.{model_grammar}
use Rattle.gdp_grammar.specs.Reading.{nothing_taken}
use Rattle.gdp_reader.specs.Taking.{taken_of}
use Rattle.gdp_reader.proofs.model.take_lines.Given as goal

abbrev pub invariant-lines : goal.invariant-lines
invariant-lines l = record {
  small : l.lines + length l.rest ≤ length l.text;
  counted : l.lines + length (lines_of l.rest) ≡ length (lines_of l.text);
  follows : follow_by model_grammar (l.lines + 1) (taken_of l.taking) (lines_of l.rest) ≡ follow_by model_grammar 1 nothing_taken (lines_of l.text);
}

abbrev pub decreases-lines : goal.decreases-lines
decreases-lines l = length l.rest
