use Rattle.lp_reader.specs.Taken.{taken_of}
use Rattle.lp_reader.proofs.Room.{closed_below}
use Rattle.lp_reader.proofs.taking.Taking.take_section.Goals as goal

pub open-requires : goal.open-requires
open-requires c = closed_below 1 (taken_of c.args.self.now) (taken_of c.close.new.self) c.close.result c.if-not-close.false c.close.ensures c.requires
