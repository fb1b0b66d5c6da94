use Rattle.gdp_commands.proofs.SolveLaws.{solved_is_accepted}
use Rattle.gdp_commands.proofs.solve_laws.solved_is_accepted.Goals as goal

pub returns : goal.returns
returns c = solved_is_accepted
