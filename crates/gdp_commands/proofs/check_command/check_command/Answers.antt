use Rattle.gdp_commands.proofs.Opened.{first_of_two, both_in_order, both_opened}
use Rattle.gdp_commands.proofs.OneRead.{check_read}
use Rattle.gdp_commands.proofs.Unread.{checked_unread, answer_unread, risen}
use Rattle.gdp_commands.proofs.check_command.check_command.Goals as goal

pub returns-in-Err-clause-replies : goal.returns-in-Err-clause-replies
returns-in-Err-clause-replies g c =
    checked_unread _ (g.S.Shelf.faults c.args.shelf.now) (g.S.Shelf.faults c.fetch-first.new.shelf) _ _ c.in-Err.error c.read_failed.result
    (λ is. c.in-Err.ensures.too_long (cc)) (λ is. c.in-Err.ensures.read (cc)) c.read_failed.ensures

pub returns-in-Err-clause-opens : goal.returns-in-Err-clause-opens
returns-in-Err-clause-opens g c = first_of_two _ (g.S.Shelf.is_opened c.fetch-first.new.shelf) _ _ c.in-Err.ensures.tried

pub returns-in-Err-second-clause-replies : goal.returns-in-Err-second-clause-replies
returns-in-Err-second-clause-replies g c =
    answer_unread _ _ (g.S.Shelf.faults c.args.shelf.now) (g.S.Shelf.faults c.fetch_answer-second.new.shelf) _ _ _ c.in-Err-second.error
    c.read_failed-in-Err-second.result c.fetch-first.ensures.contents c.in-Ok.ensures.text c.in-Ok.ensures.within
    (λ is. c.in-Err-second.ensures.too_long (cc))
    (λ is. risen (g.S.Shelf.faults c.args.shelf.now c.args.answer.now) (g.S.Shelf.faults c.fetch-first.new.shelf c.args.answer.now) _
    (c.fetch-first.ensures.later c.args.answer.now) (c.in-Err-second.ensures.read (cc)))
    c.read_failed-in-Err-second.ensures

pub returns-in-Err-second-clause-opens : goal.returns-in-Err-second-clause-opens
returns-in-Err-second-clause-opens g c =
    both_in_order _ (g.S.Shelf.is_opened c.fetch-first.new.shelf) (g.S.Shelf.is_opened c.fetch_answer-second.new.shelf) _ _
    c.in-Ok.ensures.opened c.in-Err-second.ensures.tried

pub returns-clause-replies : goal.returns-clause-replies
returns-clause-replies g c =
    check_read _ _ (g.S.Shelf.faults c.args.shelf.now) (g.S.Shelf.faults c.fetch_answer-second.new.shelf) _ _ _ _ c.check_texts.result
    c.fetch-first.ensures.contents c.in-Ok.ensures.text c.in-Ok-second.ensures.text c.check_texts.ensures.worked c.check_texts.ensures.says

pub returns-clause-opens : goal.returns-clause-opens
returns-clause-opens g c =
    both_opened _ (g.S.Shelf.is_opened c.fetch-first.new.shelf) (g.S.Shelf.is_opened c.fetch_answer-second.new.shelf) _ _
    c.in-Ok.ensures.opened c.in-Ok-second.ensures.opened
