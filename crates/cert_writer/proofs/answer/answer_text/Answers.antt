use Rattle.std.proofs.Common.{sym, subst, ◌∙◌, List, ℕ, codes, ◌∷◌, []}
use Rattle.cert_grammar.specs.Answers.{SpellsAnswer}
use Rattle.cert_grammar.specs.Claims.{route_word, claim_lines}
use Rattle.cert_grammar.proofs.WrittenAnswers.{written_answer}
use Rattle.cert_writer.specs.Parts.{words_text}
use Rattle.cert_writer.proofs.Written.{three, answer_parts}
use Rattle.cert_writer.proofs.answer.answer_text.Goals as goal

pub returns-clause-text : goal.returns-clause-text
returns-clause-text c =
    let a = c.args.answer.now in
    three (codes "gdp-answer 1\nroute") c.put_route.new.text c.end_line.new.out c.put_claim.new.text (32 ∷ route_word a.route) (10 ∷ []) (words_text (claim_lines c.args.names.now c.args.booleans.now a.claim))
    (rw c.in_ok-text.ensures at c.in_ok-put_route.ensures) (cc c.in_ok-end_line.ensures.whole) c.in_ok-put_claim.ensures.text
    ∙ sym (answer_parts c.args.names.now c.args.booleans.now a)

pub returns-clause-spells : goal.returns-clause-spells
returns-clause-spells c is =
    let a = c.args.answer.now in
    subst (λ (t : List ℕ). SpellsAnswer c.args.names.now c.args.booleans.now t a) (sym (returns-clause-text c)) (written_answer c.args.names.now c.args.booleans.now a (record { named = is; claim = c.in_ok-put_claim.ensures.claim }))
