use Rattle.lp_parts.proofs.Grown.{few_terms, stored_summable, goal_fits, goal_taken}
use Rattle.lp_parts.proofs.building.set_goal.Goals as goal

pub set_goal-requires-clause-few : goal.set_goal-requires-clause-few
set_goal-requires-clause-few c = few_terms c.args.milp.now c.args.terms.now c.requires.within c.requires.stored

pub set_goal-requires-clause-summable : goal.set_goal-requires-clause-summable
set_goal-requires-clause-summable c = stored_summable c.args.terms.now c.requires.stored.small

pub unreachable-requires-in-Err-Coefficient : goal.unreachable-requires-in-Err-Coefficient
unreachable-requires-in-Err-Coefficient c =
    goal_taken c.args.sense c.args.terms.now c.args.milp.now c.set_goal.new.self c.in-Err-Coefficient.field-0 c.in-Err-Coefficient.field-0-is c.requires.stored c.in-Err-Coefficient.ensures

pub returns-in-Ok : goal.returns-in-Ok
returns-in-Ok c = goal_fits c.args.sense c.args.terms.now c.args.milp.now c.set_goal.new.self c.in-Ok.field-0 c.requires.stored c.in-Ok.ensures
