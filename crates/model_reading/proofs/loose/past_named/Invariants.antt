use Rattle.std.proofs.Common.{◌≡◌, ◌<◌, ◌≤◌, ℕ, true}
use Rattle.std.specs.List.{list_any}
use Rattle.model_reading.specs.Passing.{names}
use Rattle.model_reading.proofs.loose.past_named.Given as goal

abbrev pub invariant-loop-half : goal.invariant-loop-half
invariant-loop-half l = record {
  after : l.from ≤ l.next;
  within : l.next ≤ l.count;
  named : (k : ℕ) → l.from ≤ k → k < l.next → list_any (names k) l.halves ≡ true;
}
