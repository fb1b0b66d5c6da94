use Rattle.gdp_commands.proofs.OneAnswer.{one_check}
use Rattle.gdp_commands.proofs.check_command.one_check.Goals as goal

pub returns : goal.returns
returns c = one_check c.answers_exact.ensures
