use Rattle.std.proofs.Common.{◌≡◌, ◌<◌, ℕ, length, get_or}
use Rattle.lp_frame.specs.Split.{place}
use Rattle.lp_frame.proofs.form.places_of.Given as goal

abbrev pub invariant-loop-col : goal.invariant-loop-col
invariant-loop-col l = record {
  next : l.next ≡ place l.cols l.col-index;
  count : length l.places.items ≡ l.col-index;
  each : (j : ℕ) → j < l.col-index → get_or l.places.items j 0 ≡ place l.cols j;
}
