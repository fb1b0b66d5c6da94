use Rattle.gdp_commands.proofs.CompileLaws.{refuses_exactly}
use Rattle.gdp_commands.proofs.compile_laws.refuses_exactly.Goals as goal

pub returns : goal.returns
returns c = refuses_exactly
