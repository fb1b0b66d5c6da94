use Rattle.std.proofs.Common.{◌≡◌, rules, sym, ap, ◌∙◌, ◌++◌, List, ℕ, codes, ◌∷◌, [], FitsSigned}
use Rattle.std.proofs.lemmas.Int.{to_z-of_z}
use mir.Syntax.{w128}
use Rattle.text_grammar.specs.Printing.{whole_word}
use Rattle.cert_grammar.specs.Claims.{named_lines, on_lines}
use Rattle.cert_writer.specs.Parts.{words_text}
use Rattle.cert_writer.proofs.Appended.{on_ok}
use Rattle.cert_writer.proofs.Written.{five, point_parts}
use Rattle.cert_writer.proofs.answer.put_point.Goals as goal

pub returns-clause-text : goal.returns-clause-text
returns-clause-text c =
    let f : FitsSigned w128 c.over.result = search rules in
    let whole = rw (to_z-of_z w128 c.over.result f, c.over.ensures.value) at c.in_ok-put_whole.ensures.whole in
    let over : c.put_whole.new.out ≡ c.append.new.self ++ 32 ∷ whole_word c.args.point.now.over = cc whole in
    on_ok c.put_truths.result
    (λ e. five c.args.text.now c.append.new.self c.put_whole.new.out c.end_line.new.out c.put_numbers.new.text c.put_truths.new.text
    (codes "over") (32 ∷ whole_word c.args.point.now.over) (10 ∷ []) (words_text (named_lines (codes "val") c.args.names.now c.args.point.now.nums)) (words_text (on_lines c.args.booleans.now c.args.truths.now))
    c.in_ok-append.ensures.ok over (cc c.in_ok-end_line.ensures.whole) (rw c.nums.ensures at c.in_ok-put_numbers.ensures.text) e
    ∙ ap (λ (l : List ℕ). c.args.text.now ++ l) (sym (point_parts c.args.names.now c.args.booleans.now c.args.point.now c.args.truths.now)))
    c.put_truths.ensures
