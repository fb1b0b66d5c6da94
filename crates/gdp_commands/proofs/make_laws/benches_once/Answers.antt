use Rattle.gdp_commands.proofs.SolvesOnce.{benches_once}
use Rattle.gdp_commands.proofs.make_laws.benches_once.Goals as goal

pub returns : goal.returns
returns c = benches_once
