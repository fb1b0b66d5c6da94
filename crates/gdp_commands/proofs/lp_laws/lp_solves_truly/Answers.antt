use Rattle.gdp_commands.proofs.LpLaws.{lp_solves_truly}
use Rattle.gdp_commands.proofs.lp_laws.lp_solves_truly.Goals as goal

pub returns : goal.returns
returns c = lp_solves_truly
