use Rattle.std.proofs.Common.{arith, ◌∙◌, slice_index_or, false}
use Rattle.std.proofs.lemmas.Grind.{common_steps}
use Rattle.int_linear.specs.Sums.{at}
use Rattle.point_tests.proofs.TestsLemmas.{goes_on, fails_here, wide_here}
use Rattle.answer_tests.proofs.Walks.{disjunctions_at, disjuncts_at}
use Rattle.answer_tests.proofs.rays.+blocks.Goals as goal

pub disjunctions_verdict-returns-in-Ok-FailsAt : goal.disjunctions_verdict-returns-in-Ok-FailsAt
disjunctions_verdict-returns-in-Ok-FailsAt t c =
    let k = rw c.in-Ok-FailsAt.field-0-is at c.in-Ok-FailsAt.ensures in
    let h = rw c.disjuncts.ensures.tree at k in
    fails_here _ _ _ _ (disjunctions_at c.args.disjunctions.now c.loop-disjunction.disjunction-index c.disjunction-item.result (λ k. slice_index_or c.args.truths.now k false) (at c.args.ray.now) c.loop-disjunction-test.true c.disjunction-item.is) h ∙ c.loop-disjunction.invariant.rest

pub disjunctions_verdict-returns-in-Err : goal.disjunctions_verdict-returns-in-Err
disjunctions_verdict-returns-in-Err t c =
    let k = c.in-Err.ensures in
    let h = rw c.disjuncts.ensures.tree at k in
    wide_here _ _ _ _ (disjunctions_at c.args.disjunctions.now c.loop-disjunction.disjunction-index c.disjunction-item.result (λ k. slice_index_or c.args.truths.now k false) (at c.args.ray.now) c.loop-disjunction-test.true c.disjunction-item.is) h ∙ c.loop-disjunction.invariant.rest

pub disjunctions_verdict-loop-disjunction-preserved : goal.disjunctions_verdict-loop-disjunction-preserved
disjunctions_verdict-loop-disjunction-preserved t c =
    let k = rw c.in-Ok-Holds.field-0-is at c.in-Ok-Holds.ensures in
    let h = rw c.disjuncts.ensures.tree at k in
    record {
      below = grind (arith, common_steps);
      rest = goes_on _ _ _ (disjunctions_at c.args.disjunctions.now c.loop-disjunction.disjunction-index c.disjunction-item.result (λ k. slice_index_or c.args.truths.now k false) (at c.args.ray.now) c.loop-disjunction-test.true c.disjunction-item.is) h ∙ c.loop-disjunction.invariant.rest;
    }

pub disjuncts_verdict-returns-in-Ok-FailsAt : goal.disjuncts_verdict-returns-in-Ok-FailsAt
disjuncts_verdict-returns-in-Ok-FailsAt t c =
    let h = rw c.in-Ok-FailsAt.field-0-is at c.in-Ok-FailsAt.ensures in
    fails_here _ _ _ _ (disjuncts_at c.args.disjuncts.now c.loop-disjunct.disjunct-index c.disjunct-item.result (λ k. slice_index_or c.args.truths.now k false) (at c.args.ray.now) c.loop-disjunct-test.true c.disjunct-item.is) h ∙ c.loop-disjunct.invariant.rest

pub disjuncts_verdict-returns-in-Err : goal.disjuncts_verdict-returns-in-Err
disjuncts_verdict-returns-in-Err t c =
    let h = c.in-Err.ensures in
    wide_here _ _ _ _ (disjuncts_at c.args.disjuncts.now c.loop-disjunct.disjunct-index c.disjunct-item.result (λ k. slice_index_or c.args.truths.now k false) (at c.args.ray.now) c.loop-disjunct-test.true c.disjunct-item.is) h ∙ c.loop-disjunct.invariant.rest

pub disjuncts_verdict-loop-disjunct-preserved : goal.disjuncts_verdict-loop-disjunct-preserved
disjuncts_verdict-loop-disjunct-preserved t c =
    let h = rw c.in-Ok-Holds.field-0-is at c.in-Ok-Holds.ensures in
    record {
      below = grind (arith, common_steps);
      rest = goes_on _ _ _ (disjuncts_at c.args.disjuncts.now c.loop-disjunct.disjunct-index c.disjunct-item.result (λ k. slice_index_or c.args.truths.now k false) (at c.args.ray.now) c.loop-disjunct-test.true c.disjunct-item.is) h ∙ c.loop-disjunct.invariant.rest;
    }
