use Rattle.std.proofs.Common.{sym, ap, ◌∙◌, ◌++◌, List, ℕ, codes, ◌∷◌, []}
use Rattle.cert_grammar.specs.Claims.{value_word, point_lines}
use Rattle.cert_writer.specs.Parts.{words_text, tree_part}
use Rattle.cert_writer.proofs.Appended.{on_ok}
use Rattle.cert_writer.proofs.Written.{five, best_parts}
use Rattle.cert_writer.proofs.answer.put_best.Goals as goal

pub returns-clause-text : goal.returns-clause-text
returns-clause-text c =
    let a = c.args in
    on_ok c.put_tree.result
    (λ e. five a.text.now c.append.new.self c.put_value.new.text c.end_line.new.out c.put_point.new.text c.put_tree.new.text
    (codes "best ") (value_word a.value) (10 ∷ []) (words_text (point_lines a.names.now a.booleans.now a.point.now a.truths.now)) (words_text (tree_part a.proof.now))
    c.in_ok-append.ensures.ok c.in_ok-put_value.ensures.text (cc c.in_ok-end_line.ensures.whole) c.in_ok-put_point.ensures.text e
    ∙ ap (λ (l : List ℕ). a.text.now ++ l) (sym (best_parts a.names.now a.booleans.now a.point.now a.truths.now a.value a.proof.now)))
    c.put_tree.ensures.text
