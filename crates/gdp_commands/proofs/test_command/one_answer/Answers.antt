use Rattle.gdp_commands.proofs.OneAnswer.{one_test}
use Rattle.gdp_commands.proofs.test_command.one_answer.Goals as goal

pub returns : goal.returns
returns c = one_test
