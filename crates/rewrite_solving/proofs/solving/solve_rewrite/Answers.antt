use Rattle.std.proofs.Common.{rules, ◌≡◌, ◌∙◌, sym, ap, subst, Ok}
use Rattle.model_tree.specs.Values.{model_tree}
use Rattle.search_rules.specs.declared.outcome.Answer.TheVariants as answer
use Rattle.search_rules.specs.declared.outcome.Outcome.TheVariants as outcome
use Rattle.search_rules.specs.Answered.{IsAnswer}
use Rattle.milp_nodes.specs.Nodes.{problem_of}
use Rattle.milp_nodes.specs.Nodes.{milp_meaning}
use Rattle.rewrite_solving.specs.Reached.{reached_by}
use Rattle.rewrite_solving.specs.Solutions.{IsSolution}
use Rattle.rewrite_solving.proofs.Whole.{solution_of}
use Rattle.rewrite_solving.proofs.solving.solve_rewrite.Goals as goal

pub returns-in-Done-Empty : goal.returns-in-Done-Empty
returns-in-Done-Empty c =
    let milp = c.args.milp.now in
    let log = c.in_ok-answer.log in
    let k : IsAnswer (problem_of milp) (milp_meaning milp) c.args.steps log.events c.in_ok-answer.field-0.answer = search rules in
    let h : IsAnswer (problem_of milp) (milp_meaning milp) c.args.steps log.events (answer.Done (outcome.Empty c.in-Done-Empty.proof)) =
    subst (λ a. IsAnswer (problem_of milp) (milp_meaning milp) c.args.steps log.events a) (c.in-Done-Empty.is ∙ ap answer.Done c.in-Done-Empty.field-0-is) k in
    (c.empty.ensures.accepted, (log.events, (answer.Done (outcome.Empty c.in-Done-Empty.proof), (h, ap Ok c.empty.ensures.made))))

pub returns-in-Done-Best : goal.returns-in-Done-Best
returns-in-Done-Best c =
    let m = model_tree c.args.model.now in
    let milp = c.args.milp.now in
    let log = c.in_ok-answer.log in
    let made = c.in_ok-made-in-Done-Best.made in
    let k : IsAnswer (problem_of milp) (milp_meaning milp) c.args.steps log.events c.in_ok-answer.field-0.answer = search rules in
    let h : IsAnswer (problem_of milp) (milp_meaning milp) c.args.steps log.events (answer.Done (outcome.Best c.in-Done-Best.best c.in-Done-Best.proof)) =
    subst (λ a. IsAnswer (problem_of milp) (milp_meaning milp) c.args.steps log.events a) (c.in-Done-Best.is ∙ ap answer.Done c.in-Done-Best.field-0-is) k in
    let e : c.come_to.result ≡ reached_by made log = search rules in
    subst (IsSolution m milp c.args.steps) (sym e)
    (solution_of m milp c.args.steps log (answer.Done (outcome.Best c.in-Done-Best.best c.in-Done-Best.proof)) made h c.in_ok-made-in-Done-Best.ensures.made c.in_ok-made-in-Done-Best.ensures.accepted)

pub returns : goal.returns
returns c =
    let m = model_tree c.args.model.now in
    let milp = c.args.milp.now in
    let log = c.in_ok-answer.log in
    let made = c.in_ok-made-in-Endless.made in
    let k : IsAnswer (problem_of milp) (milp_meaning milp) c.args.steps log.events c.in_ok-answer.field-0.answer = search rules in
    let h : IsAnswer (problem_of milp) (milp_meaning milp) c.args.steps log.events (answer.Endless c.in-Endless.at c.in-Endless.truths c.in-Endless.ray) =
    subst (λ a. IsAnswer (problem_of milp) (milp_meaning milp) c.args.steps log.events a) c.in-Endless.is k in
    let e : c.come_to-in-Endless.result ≡ reached_by made log = search rules in
    subst (IsSolution m milp c.args.steps) (sym e)
    (solution_of m milp c.args.steps log (answer.Endless c.in-Endless.at c.in-Endless.truths c.in-Endless.ray) made h c.in_ok-made-in-Endless.ensures.made c.in_ok-made-in-Endless.ensures.accepted)
