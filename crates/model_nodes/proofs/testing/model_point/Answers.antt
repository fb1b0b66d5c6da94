use Rattle.std.proofs.Common.{rules, ◌≡◌, ◌∙◌, sym, ap, subst, length, reverse, Ok, Err}
use Rattle.settling.specs.Reading.{Answers}
use Rattle.settling.specs.declared.ending.Found.TheVariants as found
use Rattle.point_tests.specs.declared.verdicts.Verdict.TheVariants.{Holds}
use Rattle.point_tests.specs.Satisfied.{point_of}
use Rattle.point_tests.specs.Tests.{verdict_of, tests_of}
use Rattle.model_tree.specs.Values.{model_tree}
use Rattle.model_nodes.specs.Nodes.{truths_at, model_split, split_found}
use Rattle.model_forces.specs.Paths.{tris_at}
use Rattle.model_nodes.proofs.Found.{truths_length}
use Rattle.model_nodes.proofs.Tested.{test_is}
use Rattle.model_nodes.proofs.testing.model_point.Goals as goal

pub satisfies-requires-clause-truths : goal.satisfies-requires-clause-truths
satisfies-requires-clause-truths c =
    ap length (c.as_slice.ensures.value ∙ c.in-Ok.ensures) ∙ truths_length (tris_at (model_tree c.args.model.now) (reverse c.halves-halves.result.now)) 0 (length c.args.model.now.booleans)

pub returns-in-Ok-Holds : goal.returns-in-Ok-Holds
returns-in-Ok-Holds c =
    let m = model_tree c.args.model.now in
    let x = c.args.at.now in
    let truths : c.in-Ok.truths.items ≡ truths_at m c.args.path.now = c.in-Ok.ensures ∙ ap (truths_at m) c.halves-halves.ensures in
    let v = sym (rw c.in-Ok-Holds.field-0-is at c.in-Ok-Holds.ensures.first ∙ ap (λ ts. verdict_of (tests_of m (point_of x ts))) (c.as_slice.ensures.value ∙ truths)) in
    ap (λ ts. Ok (found.Point ts)) (c.from_vec.ensures ∙ truths)
    ∙ sym (test_is m c.args.path.now x (Ok Holds) c.over.ensures.positive (search rules) (rw c.nums-nums.ensures at c.all_fit.ensures) v)

pub returns-in-Ok-FailsAt : goal.returns-in-Ok-FailsAt
returns-in-Ok-FailsAt c =
    let m = model_tree c.args.model.now in
    let x = c.args.at.now in
    let truths : c.in-Ok.truths.items ≡ truths_at m c.args.path.now = c.in-Ok.ensures ∙ ap (truths_at m) c.halves-halves.ensures in
    let v = sym (rw c.in-Ok-FailsAt.field-0-is at c.in-Ok-FailsAt.ensures.first ∙ ap (λ ts. verdict_of (tests_of m (point_of x ts))) (c.as_slice.ensures.value ∙ truths)) in
    let e = ap split_found (c.parted.ensures ∙ ap (λ p. model_split m p x) c.halves-halves.ensures) ∙ sym (test_is m c.args.path.now x _ c.over.ensures.positive (search rules) (rw c.nums-nums.ensures at c.all_fit.ensures) v) in
    subst (λ z. Answers (λ r. r ≡ z) c.split_found.result) e c.split_found.ensures

pub returns-in-Err : goal.returns-in-Err
returns-in-Err c =
    let m = model_tree c.args.model.now in
    let x = c.args.at.now in
    let truths : c.in-Ok.truths.items ≡ truths_at m c.args.path.now = c.in-Ok.ensures ∙ ap (truths_at m) c.halves-halves.ensures in
    let v = sym (c.in-Err.ensures.first ∙ ap (λ ts. verdict_of (tests_of m (point_of x ts))) (c.as_slice.ensures.value ∙ truths)) in
    sym (test_is m c.args.path.now x (Err c.in-Err.wide) c.over.ensures.positive (search rules) (rw c.nums-nums.ensures at c.all_fit.ensures) v)
