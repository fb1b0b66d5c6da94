use Rattle.std.proofs.Common.{true}
use Rattle.model_tree.specs.Values.{model_tree}
use Rattle.certificate_checker.proofs.Shows.{if_bounded}
use Rattle.model_forces.specs.Forces.{model_force_of}
use Rattle.model_forces.proofs.Sizes.{force_is_bounded}
use Rattle.logic_checker.proofs.True.{path_of}
use Rattle.logic_checker.proofs.models.NodesTested.force.Goals as goal

pub returns-clause-bounded : goal.returns-clause-bounded
returns-clause-bounded c =
    let m = model_tree c.args.self.now.model.now in
    let p = c.args.trail.now in
    if_bounded c.force_there.result (model_force_of m p true) c.force_there.ensures (force_is_bounded m p true c.vars-vars.ensures.sound (path_of m p c.requires))
