use Rattle.std.proofs.Common.{rules, ◌≡◌, ◌∙◌, sym, ap, subst, Ok}
use Rattle.model_tree.specs.Values.{model_tree}
use Rattle.search_rules.specs.declared.outcome.Answer.TheVariants as answer
use Rattle.search_rules.specs.declared.outcome.Outcome.TheVariants as outcome
use Rattle.rewrite_solving.specs.Reached.{reached_by}
use Rattle.gdp_solve.specs.Logic.{IsFoundBy, IsLogicSolution}
use Rattle.gdp_solve.proofs.Claiming.{solution_of}
use Rattle.gdp_solve.proofs.logic.solve_by_logic.Goals as goal

pub returns-in-Done-Empty : goal.returns-in-Done-Empty
returns-in-Done-Empty c =
    let m = model_tree c.args.model.now in
    let log = c.in_ok-answer.log in
    let k : IsFoundBy m c.args.steps log.events c.in_ok-answer.field-0.answer = search rules in
    let h : IsFoundBy m c.args.steps log.events (answer.Done (outcome.Empty c.in-Done-Empty.proof)) =
    subst (IsFoundBy m c.args.steps log.events) (c.in-Done-Empty.is ∙ ap answer.Done c.in-Done-Empty.field-0-is) k in
    (c.empty.ensures.accepted, (log.events, (answer.Done (outcome.Empty c.in-Done-Empty.proof), (h, ap Ok c.empty.ensures.made))))

pub returns-in_ok-made-in-Done-Best : goal.returns-in_ok-made-in-Done-Best
returns-in_ok-made-in-Done-Best c =
    let m = model_tree c.args.model.now in
    let log = c.in_ok-answer.log in
    let made = c.in_ok-made-in-Done-Best.made in
    let k : IsFoundBy m c.args.steps log.events c.in_ok-answer.field-0.answer = search rules in
    let h : IsFoundBy m c.args.steps log.events (answer.Done (outcome.Best c.in-Done-Best.best c.in-Done-Best.proof)) =
    subst (IsFoundBy m c.args.steps log.events) (c.in-Done-Best.is ∙ ap answer.Done c.in-Done-Best.field-0-is) k in
    let e : c.come_to.result ≡ reached_by made log = search rules in
    subst (IsLogicSolution m c.args.steps) (sym e)
    (solution_of m c.args.steps log (answer.Done (outcome.Best c.in-Done-Best.best c.in-Done-Best.proof)) made h c.in_ok-made-in-Done-Best.ensures.made c.in_ok-made-in-Done-Best.ensures.accepted)

pub returns-in_ok-made-in-Endless : goal.returns-in_ok-made-in-Endless
returns-in_ok-made-in-Endless c =
    let m = model_tree c.args.model.now in
    let log = c.in_ok-answer.log in
    let made = c.in_ok-made-in-Endless.made in
    let k : IsFoundBy m c.args.steps log.events c.in_ok-answer.field-0.answer = search rules in
    let h : IsFoundBy m c.args.steps log.events (answer.Endless c.in-Endless.at c.in-Endless.truths c.in-Endless.ray) =
    subst (IsFoundBy m c.args.steps log.events) c.in-Endless.is k in
    let e : c.come_to-in-Endless.result ≡ reached_by made log = search rules in
    subst (IsLogicSolution m c.args.steps) (sym e)
    (solution_of m c.args.steps log (answer.Endless c.in-Endless.at c.in-Endless.truths c.in-Endless.ray) made h c.in_ok-made-in-Endless.ensures.made c.in_ok-made-in-Endless.ensures.accepted)
