use Rattle.std.proofs.Common.{subst, IfOk}
use Rattle.search_rules.specs.Answered.{IsAnswer}
use Rattle.model_tree.specs.Values.{model_tree}
use Rattle.model_nodes.specs.Nodes.{model_problem, model_meaning}
use Rattle.logic_branching.specs.Claimed.{IsTrueAnswer}
use Rattle.logic_branching.proofs.Claiming.{answers_are_true, on_ok}
use Rattle.logic_branching.proofs.solving.solve_logic.Goals as goal

pub returns-clause-answer : goal.returns-clause-answer
returns-clause-answer c =
    subst (λ m. IfOk c.solve_nodes.result (λ s. IsAnswer (model_problem (model_tree m)) (model_meaning (model_tree m)) c.args.steps s.log.events s.answer)) c.new.ensures c.solve_nodes.ensures

pub returns-clause-claim : goal.returns-clause-claim
returns-clause-claim c =
    let m = model_tree c.args.model.now in
    on_ok c.solve_nodes.result (λ s. IsAnswer (model_problem m) (model_meaning m) c.args.steps s.log.events s.answer) (λ s. IsTrueAnswer m s.answer)
    (λ s a. answers_are_true m c.args.steps s.log.events s.answer c.vars.ensures.sound a)
    (subst (λ x. IfOk c.solve_nodes.result (λ s. IsAnswer (model_problem (model_tree x)) (model_meaning (model_tree x)) c.args.steps s.log.events s.answer)) c.new.ensures c.solve_nodes.ensures)
