use Rattle.std.proofs.Common.{◌≡◌, false, drop, map, slice_index_or}
use Rattle.point_tests.specs.Tests.{verdict_of, test_of_off}
use Rattle.model_tree.specs.Tree.{below_disjunctions, below_disjuncts}
use Rattle.model_tree.specs.View.{disjunctions_of, disjuncts_of}
use Rattle.point_tests.proofs.satisfying.+off.Given as goal

abbrev pub invariant-disjunctions_off_verdict-loop-disjunction :
    goal.invariant-disjunctions_off_verdict-loop-disjunction
invariant-disjunctions_off_verdict-loop-disjunction l =
    verdict_of (map (test_of_off (λ k. slice_index_or l.truths k false)) (below_disjunctions (disjunctions_of (drop l.disjunction-index l.disjunctions))))
    ≡ verdict_of (map (test_of_off (λ k. slice_index_or l.truths k false)) (below_disjunctions (disjunctions_of l.disjunctions)))

abbrev pub invariant-disjuncts_off_verdict-loop-disjunct :
    goal.invariant-disjuncts_off_verdict-loop-disjunct
invariant-disjuncts_off_verdict-loop-disjunct l =
    verdict_of (map (test_of_off (λ k. slice_index_or l.truths k false)) (below_disjuncts (disjuncts_of (drop l.disjunct-index l.disjuncts))))
    ≡ verdict_of (map (test_of_off (λ k. slice_index_or l.truths k false)) (below_disjuncts (disjuncts_of l.disjuncts)))
