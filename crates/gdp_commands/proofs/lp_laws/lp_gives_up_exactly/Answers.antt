use Rattle.gdp_commands.proofs.LpLaws.{lp_gives_up_exactly}
use Rattle.gdp_commands.proofs.lp_laws.lp_gives_up_exactly.Goals as goal

pub returns : goal.returns
returns c = lp_gives_up_exactly
