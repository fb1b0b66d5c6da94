use Rattle.std.proofs.Common.{◌≡◌, ◌++◌, drop}
use Rattle.int_linear.specs.Sums.{at}
use Rattle.text_grammar.specs.Printing.{text_of}
use Rattle.lp_answers.specs.Texts.{number_lines}
use Rattle.lp_answers.proofs.lines.put_numbers.Given as goal

abbrev pub invariant-loop-place : goal.invariant-loop-place
invariant-loop-place l =
    l.text ++ text_of (number_lines l.word l.place (drop l.place l.names) (at l.numbers)) ≡ l.fn.text ++ text_of (number_lines l.word 0 l.names (at l.numbers))
