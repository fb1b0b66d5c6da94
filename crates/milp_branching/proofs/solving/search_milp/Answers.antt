use Rattle.std.proofs.Common.{subst, IfOk}
use Rattle.search_rules.specs.Answered.{IsAnswerInAnyOrder}
use Rattle.milp_nodes.specs.Nodes.{milp_meaning, problem_of}
use Rattle.milp_branching.proofs.solving.search_milp.Goals as goal

pub returns : goal.returns
returns c =
    subst (λ m. IfOk c.search_nodes.result (λ s. IsAnswerInAnyOrder (problem_of m) (milp_meaning m) c.args.steps s.log.events s.answer)) c.new.ensures c.search_nodes.ensures
