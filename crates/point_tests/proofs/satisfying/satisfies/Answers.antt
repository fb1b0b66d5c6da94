use Rattle.point_tests.specs.Satisfied.{point_of}
use Rattle.model_tree.specs.Values.{model_tree}
use Rattle.point_tests.proofs.SatisfiedLemmas.{model_tells}
use Rattle.point_tests.proofs.satisfying.satisfies.Goals as goal

pub returns-clause-tells : goal.returns-clause-tells
returns-clause-tells c =
    rw c.first_verdict.ensures (model_tells (model_tree c.args.model.now) (point_of c.args.at.now c.args.truths.now))
