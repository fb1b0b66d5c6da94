use Rattle.gdp_commands.proofs.MakeLaws.{benches_truly}
use Rattle.gdp_commands.proofs.make_laws.benches_truly.Goals as goal

pub returns : goal.returns
returns c = benches_truly
