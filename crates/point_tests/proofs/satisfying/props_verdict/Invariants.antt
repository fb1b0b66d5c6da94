use Rattle.std.proofs.Common.{◌≡◌, true, false, drop, length, map, slice_index_or}
use Rattle.model_tree.specs.Sound.{are_props_sound}
use Rattle.point_tests.specs.Tests.{verdict_of, test_of_prop}
use Rattle.model_tree.specs.View.{props_of}
use Rattle.point_tests.proofs.satisfying.props_verdict.Given as goal

abbrev pub invariant-loop-prop : goal.invariant-loop-prop
invariant-loop-prop l = record {
  below : are_props_sound (length l.truths) (props_of (drop l.prop-index l.props)) ≡ true;
  rest : verdict_of (map (test_of_prop (λ k. slice_index_or l.truths k false)) (props_of (drop l.prop-index l.props)))
      ≡ verdict_of (map (test_of_prop (λ k. slice_index_or l.truths k false)) (props_of l.props));
}
