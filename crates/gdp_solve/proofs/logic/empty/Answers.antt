use Rattle.model_tree.specs.Values.{model_tree}
use Rattle.gdp_solve.proofs.Claiming.{empty_accepted}
use Rattle.gdp_solve.proofs.logic.empty.Goals as goal

pub returns-clause-accepted : goal.returns-clause-accepted
returns-clause-accepted c =
    empty_accepted (model_tree c.args.model.now) c.args.proof c.vars-vars.ensures.sound c.nodes-nodes.ensures.proof.0 c.requires
