use Rattle.std.proofs.Common.{◌≡◌, ◌+◌, length, arith, refl}
use Rattle.std.proofs.lemmas.Grind.{common_steps}
use Rattle.search_core.proofs.Tidying.{parted_tidy}
use Rattle.search_core.proofs.board.Board.part.Goals as goal

pub invariant_of-self-3 : goal.invariant_of-self-3
invariant_of-self-3 c =
    let a = c.append_two.ensures in
    let r = c.in_ok-reserve.ensures.items in
    let m : c.len-made.result ≡ length c.args.self.now.arena.slots.items = grind (arith, common_steps) in
    let m1 : c.len-made.result + 1 ≡ length c.args.self.now.arena.slots.items + 1 = omega (arith, m) in
    record {
      tidy = rw (a, r) (parted_tidy c.args.self.now.opened c.args.number c.args.half _ _ c.args.self.now.waiting.items c.args.self.now.arena.slots.items c.part.new.self.slots.items c.args.self.now.tidy c.requires.taken c.in_ok-part.ensures.others
          refl refl m m1 c.in_ok-part.ensures.first c.in_ok-part.ensures.second);
    }
