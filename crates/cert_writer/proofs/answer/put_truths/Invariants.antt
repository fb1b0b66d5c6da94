use Rattle.std.proofs.Common.{◌≡◌, ◌++◌, drop}
use Rattle.cert_grammar.specs.Claims.{on_lines}
use Rattle.cert_writer.specs.Parts.{words_text}
use Rattle.cert_writer.proofs.answer.put_truths.Given as goal

abbrev pub invariant-loop-place : goal.invariant-loop-place
invariant-loop-place l =
    l.text ++ words_text (on_lines (drop l.place l.booleans) (drop l.place l.truths)) ≡ l.fn.text ++ words_text (on_lines l.booleans l.truths)
