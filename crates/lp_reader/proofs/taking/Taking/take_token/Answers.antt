use Rattle.lp_reader.specs.Taken.{taken_of}
use Rattle.lp_reader.proofs.Room.{ready_ordered, ready_count}
use Rattle.lp_reader.proofs.taking.Taking.take_token.Goals as goal

pub take_right-requires-clause-ordered : goal.take_right-requires-clause-ordered
take_right-requires-clause-ordered c = ready_ordered 1 (taken_of c.args.self.now) c.requires

pub take_right-requires-clause-few : goal.take_right-requires-clause-few
take_right-requires-clause-few c = ready_count 1 (taken_of c.args.self.now) c.requires

pub take_integer_token-requires : goal.take_integer_token-requires
take_integer_token-requires c = ready_count 1 (taken_of c.args.self.now) c.requires
