use Rattle.search_core.specs.Boards.{rest_of}
use Rattle.search_rules.proofs.Solving.{got_at}
use Rattle.search_core.proofs.Tidying.{taken_tidy, taken, taken_opens}
use Rattle.search_core.proofs.board.Board.take.Goals as goal

pub invariant_of-self : goal.invariant_of-self
invariant_of-self c = record {
  tidy = rw c.remove-half.ensures.items (taken_tidy c.args.self.now.opened c.args.self.now.waiting.items c.args.self.now.arena.slots.items c.args.pick c.requires.pick c.args.self.now.tidy);
}

pub returns-clause-opened : goal.returns-clause-opened
returns-clause-opened c =
    let g = got_at c.args.self.now.waiting.items c.args.pick c.remove-half.result c.requires.pick c.remove-half.ensures.value in
    rw c.remove-half.ensures.items (taken_opens (rest_of c.args.self.now) c.args.self.now.opened c.args.self.now.waiting.items c.args.self.now.arena.slots.items c.args.pick c.remove-half.result c.args.self.now.tidy g)

pub returns-clause-taken : goal.returns-clause-taken
returns-clause-taken c =
    let g = got_at c.args.self.now.waiting.items c.args.pick c.remove-half.result c.requires.pick c.remove-half.ensures.value in
    rw c.remove-half.ensures.items (taken c.args.self.now.opened c.args.self.now.waiting.items c.args.self.now.arena.slots.items c.args.pick c.remove-half.result c.requires.pick c.args.self.now.tidy g)

pub returns-clause-place : goal.returns-clause-place
returns-clause-place c = got_at c.args.self.now.waiting.items c.args.pick c.remove-half.result c.requires.pick c.remove-half.ensures.value
