use Rattle.std.proofs.Common.{rules}
use Rattle.milp_nodes.specs.Nodes.{problem_of, milp_meaning}
use Rattle.search_rules.specs.Answered.{IsAnswer}
use Rattle.gdp_commands.proofs.Searching.{if_searched}
use Rattle.gdp_commands.proofs.lp_command.search_file.Goals as goal

pub returns-clause-says : goal.returns-clause-says
returns-clause-says c =
    let p = c.args.file.now in
    let s = c.in_ok-solved.solved in
    let answered : IsAnswer (problem_of p.milp) (milp_meaning p.milp) c.args.steps s.log.events s.answer = rw c.milp.ensures at c.in_ok-solved.ensures in
    if_searched p c.args.steps (record { events = s.log.events; answer = s.answer }) c.found.result answered c.found.ensures.says
