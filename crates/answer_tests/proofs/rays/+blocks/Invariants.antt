use Rattle.std.proofs.Common.{◌≡◌, true, false, drop, length, slice_index_or}
use Rattle.int_linear.specs.Sums.{at}
use Rattle.model_tree.specs.Sound.{are_disjunctions_sound, are_disjuncts_sound}
use Rattle.point_tests.specs.Tests.{verdict_of}
use Rattle.model_tree.specs.View.{disjunctions_of, disjuncts_of}
use Rattle.answer_tests.specs.Rays.{ray_tests_of_disjunctions, ray_tests_of_disjuncts}
use Rattle.answer_tests.proofs.rays.+blocks.Given as goal

abbrev pub invariant-disjunctions_verdict-loop-disjunction :
    goal.invariant-disjunctions_verdict-loop-disjunction
invariant-disjunctions_verdict-loop-disjunction l = record {
  below : are_disjunctions_sound (length l.ray) (length l.truths) (disjunctions_of (drop l.disjunction-index l.disjunctions)) ≡ true;
  rest : verdict_of (ray_tests_of_disjunctions (disjunctions_of (drop l.disjunction-index l.disjunctions)) (λ k. slice_index_or l.truths k false) (at l.ray))
      ≡ verdict_of (ray_tests_of_disjunctions (disjunctions_of l.disjunctions) (λ k. slice_index_or l.truths k false) (at l.ray));
}

abbrev pub invariant-disjuncts_verdict-loop-disjunct :
    goal.invariant-disjuncts_verdict-loop-disjunct
invariant-disjuncts_verdict-loop-disjunct l = record {
  below : are_disjuncts_sound (length l.ray) (length l.truths) (disjuncts_of (drop l.disjunct-index l.disjuncts)) ≡ true;
  rest : verdict_of (ray_tests_of_disjuncts (disjuncts_of (drop l.disjunct-index l.disjuncts)) (λ k. slice_index_or l.truths k false) (at l.ray))
      ≡ verdict_of (ray_tests_of_disjuncts (disjuncts_of l.disjuncts) (λ k. slice_index_or l.truths k false) (at l.ray));
}
