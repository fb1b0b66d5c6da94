use Rattle.std.proofs.Common.{false, slice_index_or, ◌∙◌}
use Rattle.point_tests.proofs.TestsLemmas.{goes_on, fails_here, wide_here, disjunctions_off_at, disjuncts_off_at}
use Rattle.point_tests.proofs.satisfying.+off.Goals as goal

pub disjunctions_off_verdict-returns-in-Ok-FailsAt : goal.disjunctions_off_verdict-returns-in-Ok-FailsAt
disjunctions_off_verdict-returns-in-Ok-FailsAt t c =
    let k = rw c.in-Ok-FailsAt.field-0-is at c.in-Ok-FailsAt.ensures in
    let h = rw c.disjuncts.ensures.tree at k in
    fails_here _ _ _ _ (disjunctions_off_at c.args.disjunctions.now c.loop-disjunction.disjunction-index c.disjunction-item.result (λ k. slice_index_or c.args.truths.now k false) c.loop-disjunction-test.true c.disjunction-item.is) h ∙ c.loop-disjunction.invariant

pub disjunctions_off_verdict-returns-in-Err : goal.disjunctions_off_verdict-returns-in-Err
disjunctions_off_verdict-returns-in-Err t c =
    let k = c.in-Err.ensures in
    let h = rw c.disjuncts.ensures.tree at k in
    wide_here _ _ _ _ (disjunctions_off_at c.args.disjunctions.now c.loop-disjunction.disjunction-index c.disjunction-item.result (λ k. slice_index_or c.args.truths.now k false) c.loop-disjunction-test.true c.disjunction-item.is) h ∙ c.loop-disjunction.invariant

pub disjunctions_off_verdict-loop-disjunction-preserved : goal.disjunctions_off_verdict-loop-disjunction-preserved
disjunctions_off_verdict-loop-disjunction-preserved t c =
    let k = rw c.in-Ok-Holds.field-0-is at c.in-Ok-Holds.ensures in
    let h = rw c.disjuncts.ensures.tree at k in
    goes_on _ _ _ (disjunctions_off_at c.args.disjunctions.now c.loop-disjunction.disjunction-index c.disjunction-item.result (λ k. slice_index_or c.args.truths.now k false) c.loop-disjunction-test.true c.disjunction-item.is) h ∙ c.loop-disjunction.invariant

pub disjuncts_off_verdict-returns-in-Ok-FailsAt : goal.disjuncts_off_verdict-returns-in-Ok-FailsAt
disjuncts_off_verdict-returns-in-Ok-FailsAt t c =
    let h = rw c.in-Ok-FailsAt.field-0-is at c.in-Ok-FailsAt.ensures in
    fails_here _ _ _ _ (disjuncts_off_at c.args.disjuncts.now c.loop-disjunct.disjunct-index c.disjunct-item.result (λ k. slice_index_or c.args.truths.now k false) c.loop-disjunct-test.true c.disjunct-item.is) h ∙ c.loop-disjunct.invariant

pub disjuncts_off_verdict-returns-in-Err : goal.disjuncts_off_verdict-returns-in-Err
disjuncts_off_verdict-returns-in-Err t c =
    let h = c.in-Err.ensures in
    wide_here _ _ _ _ (disjuncts_off_at c.args.disjuncts.now c.loop-disjunct.disjunct-index c.disjunct-item.result (λ k. slice_index_or c.args.truths.now k false) c.loop-disjunct-test.true c.disjunct-item.is) h ∙ c.loop-disjunct.invariant

pub disjuncts_off_verdict-loop-disjunct-preserved : goal.disjuncts_off_verdict-loop-disjunct-preserved
disjuncts_off_verdict-loop-disjunct-preserved t c =
    let h = rw c.in-Ok-Holds.field-0-is at c.in-Ok-Holds.ensures in
    goes_on _ _ _ (disjuncts_off_at c.args.disjuncts.now c.loop-disjunct.disjunct-index c.disjunct-item.result (λ k. slice_index_or c.args.truths.now k false) c.loop-disjunct-test.true c.disjunct-item.is) h ∙ c.loop-disjunct.invariant
