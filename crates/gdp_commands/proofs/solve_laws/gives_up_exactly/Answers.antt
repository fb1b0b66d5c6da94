use Rattle.gdp_commands.proofs.SolveLaws.{gives_up_exactly}
use Rattle.gdp_commands.proofs.solve_laws.gives_up_exactly.Goals as goal

pub returns : goal.returns
returns c = gives_up_exactly
