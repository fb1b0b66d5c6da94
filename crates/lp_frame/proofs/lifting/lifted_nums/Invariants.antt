use Rattle.std.proofs.Common.{◌≡◌, ◌<◌, ℕ, length}
use Rattle.int_linear.specs.Sums.{at}
use Rattle.lp_frame.specs.Split.{place, lifted}
use Rattle.lp_frame.proofs.lifting.lifted_nums.Given as goal

abbrev pub invariant-loop-col : goal.invariant-loop-col
invariant-loop-col l = record {
  next : l.place ≡ place l.cols l.col-index;
  count : length l.nums.items ≡ l.col-index;
  each : (j : ℕ) → j < l.col-index → at l.nums.items j ≡ lifted l.cols (at l.split) j;
}
