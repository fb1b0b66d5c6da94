use Rattle.std.proofs.Common.{◌≡◌, true, drop, length, map}
use Rattle.int_linear.specs.Sums.{at}
use Rattle.model_tree.specs.Sound.{are_rows_below}
use Rattle.point_tests.specs.Tests.{verdict_of}
use Rattle.answer_tests.specs.Rays.{ray_test_of_row}
use Rattle.answer_tests.proofs.rays.rows_verdict.Given as goal

abbrev pub invariant-loop-row : goal.invariant-loop-row
invariant-loop-row l = record {
  below : are_rows_below (length l.ray) (drop l.row-index l.rows) ≡ true;
  rest : verdict_of (map (ray_test_of_row (at l.ray)) (drop l.row-index l.rows)) ≡ verdict_of (map (ray_test_of_row (at l.ray)) l.rows);
}
