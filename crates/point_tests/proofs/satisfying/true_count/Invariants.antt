use Rattle.std.proofs.Common.{◌≡◌, ◌≤◌, ◌+◌, false, drop, slice_index_or}
use Rattle.point_tests.specs.Satisfied.{true_count}
use Rattle.model_tree.specs.View.{disjuncts_of}
use Rattle.point_tests.proofs.satisfying.true_count.Given as goal

abbrev pub invariant-loop-disjunct : goal.invariant-loop-disjunct
invariant-loop-disjunct l = record {
  few : l.count ≤ l.disjunct-index;
  rest : l.count + true_count (disjuncts_of (drop l.disjunct-index l.disjuncts)) (λ k. slice_index_or l.truths k false)
      ≡ true_count (disjuncts_of l.disjuncts) (λ k. slice_index_or l.truths k false);
}
