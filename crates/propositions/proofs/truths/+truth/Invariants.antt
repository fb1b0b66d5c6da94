use Rattle.std.proofs.Common.{◌≡◌, ◌≤◌, ◌+◌, true, false, drop, length, slice_index_or}
use Rattle.propositions.specs.Truth.{truths_of, are_all_true, is_some_true, true_count, are_all_ids_below}
use Rattle.propositions.specs.View.{prop_trees}
use Rattle.propositions.proofs.truths.+truth.Given as goal

abbrev pub invariant-are_all_true-loop-prop : goal.invariant-are_all_true-loop-prop
invariant-are_all_true-loop-prop l = record {
  range : are_all_ids_below (length l.truths) (prop_trees (drop l.prop-index l.props)) ≡ true;
  rest : are_all_true (truths_of (prop_trees (drop l.prop-index l.props)) (λ k. slice_index_or l.truths k false))
      ≡ are_all_true (truths_of (prop_trees l.props) (λ k. slice_index_or l.truths k false));
}

abbrev pub invariant-is_some_true-loop-prop : goal.invariant-is_some_true-loop-prop
invariant-is_some_true-loop-prop l = record {
  range : are_all_ids_below (length l.truths) (prop_trees (drop l.prop-index l.props)) ≡ true;
  rest : is_some_true (truths_of (prop_trees (drop l.prop-index l.props)) (λ k. slice_index_or l.truths k false))
      ≡ is_some_true (truths_of (prop_trees l.props) (λ k. slice_index_or l.truths k false));
}

abbrev pub invariant-true_count-loop-prop : goal.invariant-true_count-loop-prop
invariant-true_count-loop-prop l = record {
  range : are_all_ids_below (length l.truths) (prop_trees (drop l.prop-index l.props)) ≡ true;
  few : l.count ≤ l.prop-index;
  rest : l.count + true_count (truths_of (prop_trees (drop l.prop-index l.props)) (λ k. slice_index_or l.truths k false))
      ≡ true_count (truths_of (prop_trees l.props) (λ k. slice_index_or l.truths k false));
}
