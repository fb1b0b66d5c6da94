use Rattle.gdp_commands.proofs.SolveLaws.{solves_truly}
use Rattle.gdp_commands.proofs.solve_laws.solves_truly.Goals as goal

pub returns : goal.returns
returns c = solves_truly
