use Rattle.gdp_commands.proofs.OneAnswer.{one_format}
use Rattle.gdp_commands.proofs.format_command.one_format.Goals as goal

pub returns : goal.returns
returns c = one_format
