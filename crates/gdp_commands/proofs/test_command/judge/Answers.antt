use Rattle.gdp_commands.proofs.Testing.{if_model}
use Rattle.gdp_commands.proofs.test_command.judge.Goals as goal

pub returns-in-Ok-clause-says : goal.returns-in-Ok-clause-says
returns-in-Ok-clause-says c =
    if_model _ _ _ _ _ c.judge_point.result c.requires.model_within c.requires.point_within c.in-Ok.ensures.found c.judge_point.ensures.says
