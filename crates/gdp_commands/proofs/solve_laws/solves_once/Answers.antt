use Rattle.gdp_commands.proofs.SolvesOnce.{solves_once}
use Rattle.gdp_commands.proofs.solve_laws.solves_once.Goals as goal

pub returns : goal.returns
returns c = solves_once
