use Rattle.std.proofs.Common.{sym, ap, ◌∙◌, ◌++◌, List, ℕ, codes}
use Rattle.cert_grammar.specs.Claims.{named_lines, point_lines}
use Rattle.cert_writer.specs.Parts.{words_text}
use Rattle.cert_writer.proofs.Appended.{on_ok}
use Rattle.cert_writer.proofs.Written.{four, endless_parts}
use Rattle.cert_writer.proofs.answer.put_endless.Goals as goal

pub returns-clause-text : goal.returns-clause-text
returns-clause-text c =
    let a = c.args in
    on_ok c.append-2.result
    (λ e. four a.text.now c.append.new.self c.put_point.new.text c.put_numbers.new.text c.append-2.new.self
    (codes "endless\n") (words_text (point_lines a.names.now a.booleans.now a.point.now a.truths.now)) (words_text (named_lines (codes "step") a.names.now a.ray.now)) (codes "end\n")
    c.in_ok-append.ensures.ok c.in_ok-put_point.ensures.text c.in_ok-put_numbers.ensures.text e
    ∙ ap (λ (l : List ℕ). a.text.now ++ l) (sym (endless_parts a.names.now a.booleans.now a.point.now a.truths.now a.ray.now)))
    c.append-2.ensures.ok
