use Rattle.std.proofs.Common.{rules, pos, FitsSigned}
use Rattle.std.proofs.lemmas.Int.{to_z-of_z}
use mir.Syntax.{w128}
use Rattle.model_tree.specs.Values.{model_tree}
use Rattle.gdp_grammar.specs.Canonical.{var_names, sum_words, terms_over, rel_word, number_word}
use Rattle.gdp_grammar.specs.Lowest.{over}
use Rattle.gdp_printer.proofs.Texts.{on_ok, row_put}
use Rattle.gdp_printer.proofs.lines.put_row.Goals as goal

pub returns-clause-text : goal.returns-clause-text
returns-clause-text c =
    let row = c.args.row.now.0 in
    let f : FitsSigned w128 c.right.result = search rules in
    let q = rw (to_z-of_z w128 c.right.result f, c.right.ensures) at c.quotient.ensures in
    on_ok c.push.result
    (λ e. row_put (sum_words (var_names (model_tree c.args.model.now)) (terms_over (pos 1) row.terms)) (rel_word row.rel) (number_word (over (pos 1) row.right))
    c.args.text.now c.append.new.self c.put_sum.new.text c.put_rel.new.text c.put_number.new.text c.push.new.self
    c.in_ok-append.ensures.ok (rw c.terms.ensures.value at c.in_ok-put_sum.ensures) (rw c.rel.ensures at c.in_ok-put_rel.ensures) (rw q at c.in_ok-put_number.ensures) e)
    c.push.ensures.ok

pub returns-clause-stored : goal.returns-clause-stored
returns-clause-stored c = on_ok c.push.result (λ e. c.terms.ensures.sound) c.push.ensures.ok
