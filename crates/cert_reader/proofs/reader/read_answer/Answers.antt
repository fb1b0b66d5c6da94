use Rattle.std.proofs.Common.{◌≡◌, length, arith}
use Rattle.std.proofs.lemmas.Bool.Decides.{nat_tests}
use Rattle.cert_grammar.proofs.Canonical.{answer_is_written}
use Rattle.cert_grammar.proofs.Sound.{answer_is_sound}
use Rattle.cert_reader.proofs.AnswerReads.{end_good}
use Rattle.cert_reader.proofs.reader.read_answer.Goals as goal

pub returns-in-Ok-into_answer-clause-spells : goal.returns-in-Ok-into_answer-clause-spells
returns-in-Ok-into_answer-clause-spells c =
    let tested = c.lines-test.ensures in
    let none : length c.lines.left.now ≡ 0 = grind (arith, nat_tests, tested) in
    end_good c.args.names.now c.args.booleans.now c.args.text.now c.lines.left.now c.lines.line c.lines.read c.in-Ok-into_answer.answer c.lines.invariant.left none c.in-Ok-into_answer.ensures

pub returns-in-Ok-into_answer-clause-canonical : goal.returns-in-Ok-into_answer-clause-canonical
returns-in-Ok-into_answer-clause-canonical c =
    answer_is_written c.args.names.now c.args.booleans.now c.args.text.now c.in-Ok-into_answer.answer (returns-in-Ok-into_answer-clause-spells c)

pub returns-in-Ok-into_answer-clause-sound : goal.returns-in-Ok-into_answer-clause-sound
returns-in-Ok-into_answer-clause-sound c =
    answer_is_sound c.args.names.now c.args.booleans.now c.args.text.now c.in-Ok-into_answer.answer (returns-in-Ok-into_answer-clause-spells c)
