use Rattle.model_tree.specs.Values.{model_tree}
use Rattle.milp_forces.proofs.Within.{within_fit}
use Rattle.rewrite_solving.proofs.Making.{empty_accepted}
use Rattle.rewrite_solving.proofs.solving.empty.Goals as goal

pub returns-clause-accepted : goal.returns-clause-accepted
returns-clause-accepted c = empty_accepted (model_tree c.args.model.now) c.args.milp.now c.args.proof c.vars-vars.ensures.sound (within_fit c.args.milp.now c.cols-cols.ensures.within) c.requires.rewrite c.requires.right
