use Rattle.gdp_commands.proofs.SolveLaws.{checks_truly}
use Rattle.gdp_commands.proofs.solve_laws.checks_truly.Goals as goal

pub returns : goal.returns
returns c = checks_truly
