use Rattle.std.proofs.Common.{◌≡◌, drop}
use Rattle.int_linear.specs.Sums.{at}
use Rattle.point_tests.specs.Tests.{verdict_of}
use Rattle.answer_tests.specs.Rays.{ray_tests_of_vars}
use Rattle.answer_tests.proofs.rays.vars_verdict.Given as goal

abbrev pub invariant-loop-place : goal.invariant-loop-place
invariant-loop-place l =
    verdict_of (ray_tests_of_vars (drop l.place l.vars) l.place (at l.ray)) ≡ verdict_of (ray_tests_of_vars l.vars 0 (at l.ray))
