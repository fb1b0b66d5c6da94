use Rattle.gdp_commands.proofs.MakeLaws.{makes_exactly}
use Rattle.gdp_commands.proofs.make_laws.makes_exactly.Goals as goal

pub returns : goal.returns
returns c = makes_exactly
