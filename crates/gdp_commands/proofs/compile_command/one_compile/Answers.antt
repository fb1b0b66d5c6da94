use Rattle.gdp_commands.proofs.OneAnswer.{one_compile}
use Rattle.gdp_commands.proofs.compile_command.one_compile.Goals as goal

pub returns : goal.returns
returns c = one_compile
