use Rattle.std.proofs.Common.{◌≡◌, true, drop, length, map}
use Rattle.point_tests.specs.Satisfied.{point_of}
use Rattle.model_tree.specs.Sound.{are_rows_below}
use Rattle.point_tests.specs.Tests.{verdict_of, test_of_row}
use Rattle.point_tests.proofs.satisfying.rows_verdict.Given as goal

abbrev pub invariant-loop-row : goal.invariant-loop-row
invariant-loop-row l = record {
  below : are_rows_below (length l.at.nums) (drop l.row-index l.rows) ≡ true;
  rest : verdict_of (map (test_of_row (point_of l.at l.truths)) (drop l.row-index l.rows)) ≡ verdict_of (map (test_of_row (point_of l.at l.truths)) l.rows);
}
