use Rattle.std.proofs.Common.{◌+◌, ◌≤◌, length}
use Rattle.text_reader.proofs.Following.{IsLeft}
use Rattle.cert_grammar.specs.Answers.{answer_grammar}
use Rattle.cert_grammar.specs.ExactLines.{exact_lines}
use Rattle.cert_reader.proofs.reader.read_answer.Given as goal

abbrev pub invariant-lines : goal.invariant-lines
invariant-lines l = record {
  left : IsLeft (answer_grammar l.names l.booleans) (exact_lines l.text) l.line l.read (exact_lines l.left);
  bound : l.line + length l.left ≤ 1 + length l.text;
}

abbrev pub decreases-lines : goal.decreases-lines
decreases-lines l = length l.left
