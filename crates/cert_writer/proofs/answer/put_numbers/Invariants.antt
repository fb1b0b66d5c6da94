use Rattle.std.proofs.Common.{◌≡◌, ◌++◌, drop, take, true}
use Rattle.std.specs.List.{list_all}
use Rattle.fractions.specs.Width.{fits}
use Rattle.cert_grammar.specs.Claims.{named_lines}
use Rattle.cert_writer.specs.Parts.{words_text}
use Rattle.cert_writer.proofs.answer.put_numbers.Given as goal

abbrev pub invariant-loop-place : goal.invariant-loop-place
invariant-loop-place l = record {
  written : l.text ++ words_text (named_lines l.first (drop l.place l.names) (drop l.place l.numbers)) ≡ l.fn.text ++ words_text (named_lines l.first l.names l.numbers);
  fit : list_all fits (take l.place l.numbers) ≡ true;
}
