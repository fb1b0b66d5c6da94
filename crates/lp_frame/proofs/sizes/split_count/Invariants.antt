use Rattle.std.proofs.Common.{◌≡◌}
use Rattle.lp_frame.specs.Split.{place}
use Rattle.lp_frame.proofs.sizes.split_count.Given as goal

abbrev pub invariant-loop-col : goal.invariant-loop-col
invariant-loop-col l = l.count ≡ place l.cols l.col-index
