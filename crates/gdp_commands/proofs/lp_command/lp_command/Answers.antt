use Rattle.gdp_commands.proofs.OneRead.{lp_read}
use Rattle.gdp_commands.proofs.Opened.{one_opened}
use Rattle.gdp_commands.proofs.Unread.{lp_unread}
use Rattle.gdp_commands.proofs.lp_command.lp_command.Goals as goal

pub returns-in-Ok-clause-replies : goal.returns-in-Ok-clause-replies
returns-in-Ok-clause-replies g c =
    lp_read _ _ (g.S.Shelf.faults c.args.shelf.now) (g.S.Shelf.faults c.fetch.new.shelf) _ _ c.solve_lp.result
    c.in-Ok.ensures.text c.solve_lp.ensures.worked c.solve_lp.ensures.says

pub returns-in-Ok-clause-opens : goal.returns-in-Ok-clause-opens
returns-in-Ok-clause-opens g c = one_opened _ (g.S.Shelf.is_opened c.fetch.new.shelf) _ c.in-Ok.ensures.opened

pub returns-in-Err-clause-replies : goal.returns-in-Err-clause-replies
returns-in-Err-clause-replies g c =
    lp_unread _ _ (g.S.Shelf.faults c.args.shelf.now) (g.S.Shelf.faults c.fetch.new.shelf) _ c.in-Err.error c.read_failed.result
    (λ is. c.in-Err.ensures.too_long (cc)) (λ is. c.in-Err.ensures.read (cc)) c.read_failed.ensures
