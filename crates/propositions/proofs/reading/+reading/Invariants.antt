use Rattle.std.proofs.Common.{◌≡◌, ◌≤◌, ◌+◌, true, drop, length, slice_index_or}
use Rattle.gdp_tables.specs.declared.tri.Tri.TheVariants.{No}
use Rattle.gdp_tables.specs.Readings.{and_of, or_of}
use Rattle.propositions.specs.Reading.{tris_of, and_all, or_all, yes_count, open_count}
use Rattle.propositions.specs.Truth.{are_all_ids_below}
use Rattle.propositions.specs.View.{prop_trees}
use Rattle.propositions.proofs.reading.+reading.Given as goal

abbrev pub invariant-and_all-loop-prop : goal.invariant-and_all-loop-prop
invariant-and_all-loop-prop l = record {
  range : are_all_ids_below (length l.truths) (prop_trees (drop l.prop-index l.props)) ≡ true;
  rest : and_of l.all (and_all (tris_of (prop_trees (drop l.prop-index l.props)) (λ k. slice_index_or l.truths k No)))
      ≡ and_all (tris_of (prop_trees l.props) (λ k. slice_index_or l.truths k No));
}

abbrev pub invariant-or_all-loop-prop : goal.invariant-or_all-loop-prop
invariant-or_all-loop-prop l = record {
  range : are_all_ids_below (length l.truths) (prop_trees (drop l.prop-index l.props)) ≡ true;
  rest : or_of l.some (or_all (tris_of (prop_trees (drop l.prop-index l.props)) (λ k. slice_index_or l.truths k No)))
      ≡ or_all (tris_of (prop_trees l.props) (λ k. slice_index_or l.truths k No));
}

abbrev pub invariant-count_known-loop-prop : goal.invariant-count_known-loop-prop
invariant-count_known-loop-prop l = record {
  range : are_all_ids_below (length l.truths) (prop_trees (drop l.prop-index l.props)) ≡ true;
  few : l.yes + l.undecided ≤ l.prop-index;
  yes : l.yes + yes_count (tris_of (prop_trees (drop l.prop-index l.props)) (λ k. slice_index_or l.truths k No))
      ≡ yes_count (tris_of (prop_trees l.props) (λ k. slice_index_or l.truths k No));
  undecided : l.undecided + open_count (tris_of (prop_trees (drop l.prop-index l.props)) (λ k. slice_index_or l.truths k No))
      ≡ open_count (tris_of (prop_trees l.props) (λ k. slice_index_or l.truths k No));
}
