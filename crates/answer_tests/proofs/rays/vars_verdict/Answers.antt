use Rattle.std.proofs.Common.{rules, ◌∙◌, FitsSigned}
use Rattle.std.proofs.lemmas.Int.{to_z-of_z}
use Rattle.int_linear.specs.Sums.{at}
use Rattle.point_tests.proofs.TestsLemmas.{goes_on, fails_here}
use Rattle.answer_tests.proofs.Walks.{vars_at}
use mir.Syntax.{w128}
use Rattle.answer_tests.proofs.rays.vars_verdict.Goals as goal

pub returns-in-Ok-FailsAt : goal.returns-in-Ok-FailsAt
returns-in-Ok-FailsAt c =
    let f : FitsSigned w128 (at c.args.ray.now c.loop-place.place) = search rules in
    let k = rw c.in-Ok-FailsAt.field-0-is at c.in-Ok-FailsAt.ensures in
    let h = rw (to_z-of_z w128 (at c.args.ray.now c.loop-place.place) f) at k in
    fails_here _ _ _ _ (vars_at c.args.vars.now c.loop-place.place c.index-vars-place.result (at c.args.ray.now) c.loop-place-test.true c.index-vars-place.is) h
    ∙ c.loop-place.invariant

pub loop-place-preserved : goal.loop-place-preserved
loop-place-preserved c =
    let f : FitsSigned w128 (at c.args.ray.now c.loop-place.place) = search rules in
    let k = rw c.in-Ok-Holds.field-0-is at c.in-Ok-Holds.ensures in
    let h = rw (to_z-of_z w128 (at c.args.ray.now c.loop-place.place) f) at k in
    goes_on _ _ _ (vars_at c.args.vars.now c.loop-place.place c.index-vars-place.result (at c.args.ray.now) c.loop-place-test.true c.index-vars-place.is) h
    ∙ c.loop-place.invariant
