use Rattle.search_core.proofs.Tidying.{closed_tidy}
use Rattle.search_core.proofs.board.Board.close.Goals as goal

pub invariant_of-self : goal.invariant_of-self
invariant_of-self c = record {
  tidy = closed_tidy c.args.self.now.opened c.args.number c.args.half c.args.self.now.waiting.items c.args.self.now.arena.slots.items c.close.new.self.slots.items c.args.self.now.tidy c.requires.taken c.close.ensures.others;
}
