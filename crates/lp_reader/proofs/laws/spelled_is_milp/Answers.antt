use Rattle.lp_reader.proofs.Ready.{spelled_is_milp}
use Rattle.lp_reader.proofs.laws.spelled_is_milp.Goals as goal

pub returns : goal.returns
returns c = spelled_is_milp
