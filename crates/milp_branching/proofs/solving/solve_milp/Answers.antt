use Rattle.std.proofs.Common.{subst, IfOk}
use Rattle.search_rules.specs.Answered.{IsAnswer}
use Rattle.milp_nodes.specs.Nodes.{milp_meaning, problem_of}
use Rattle.milp_branching.proofs.solving.solve_milp.Goals as goal

pub returns : goal.returns
returns c =
    subst (λ m. IfOk c.solve_nodes.result (λ s. IsAnswer (problem_of m) (milp_meaning m) c.args.steps s.log.events s.answer)) c.new.ensures c.solve_nodes.ensures
