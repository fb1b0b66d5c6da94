use Rattle.gdp_commands.proofs.CompileLaws.{compiles_exactly}
use Rattle.gdp_commands.proofs.compile_laws.compiles_exactly.Goals as goal

pub returns : goal.returns
returns c = compiles_exactly
