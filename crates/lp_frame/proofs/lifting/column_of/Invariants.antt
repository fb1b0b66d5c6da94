use Rattle.std.proofs.Common.{◌≡◌, ◌+◌}
use Rattle.lp_frame.specs.Split.{place}
use Rattle.lp_frame.proofs.lifting.column_of.Given as goal

abbrev pub invariant-loop-j : goal.invariant-loop-j
invariant-loop-j l = place l.cols l.j + l.left ≡ l.split
