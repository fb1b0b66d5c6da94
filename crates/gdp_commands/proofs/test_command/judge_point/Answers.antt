use Rattle.gdp_commands.proofs.Testing.{if_point}
use Rattle.gdp_commands.proofs.test_command.judge_point.Goals as goal

pub returns-clause-says : goal.returns-clause-says
returns-clause-says c =
    if_point _ _ _ _ c.in-Ok.at.at c.in-Ok.at.truths _ c.satisfies.result c.verdict_reply.result c.as_slice.ensures.same c.as_slice-2.ensures c.in-Ok.ensures.found
    c.satisfies.ensures.first c.verdict_reply.ensures.says
