use Rattle.std.proofs.Common.{◌≡◌, true, drop, length}
use Rattle.point_tests.specs.Satisfied.{point_of}
use Rattle.model_tree.specs.Sound.{are_disjunctions_sound, are_disjuncts_sound}
use Rattle.point_tests.specs.Tests.{verdict_of, tests_of_disjunctions, tests_of_disjuncts}
use Rattle.model_tree.specs.View.{disjunctions_of, disjuncts_of}
use Rattle.point_tests.proofs.satisfying.+satisfy.Given as goal

abbrev pub invariant-disjunctions_verdict-loop-disjunction :
    goal.invariant-disjunctions_verdict-loop-disjunction
invariant-disjunctions_verdict-loop-disjunction l = record {
  below : are_disjunctions_sound (length l.at.nums) (length l.truths) (disjunctions_of (drop l.disjunction-index l.disjunctions)) ≡ true;
  rest : verdict_of (tests_of_disjunctions (disjunctions_of (drop l.disjunction-index l.disjunctions)) (point_of l.at l.truths))
      ≡ verdict_of (tests_of_disjunctions (disjunctions_of l.disjunctions) (point_of l.at l.truths));
}

abbrev pub invariant-disjuncts_verdict-loop-disjunct :
    goal.invariant-disjuncts_verdict-loop-disjunct
invariant-disjuncts_verdict-loop-disjunct l = record {
  below : are_disjuncts_sound (length l.at.nums) (length l.truths) (disjuncts_of (drop l.disjunct-index l.disjuncts)) ≡ true;
  rest : verdict_of (tests_of_disjuncts (disjuncts_of (drop l.disjunct-index l.disjuncts)) (point_of l.at l.truths))
      ≡ verdict_of (tests_of_disjuncts (disjuncts_of l.disjuncts) (point_of l.at l.truths));
}
