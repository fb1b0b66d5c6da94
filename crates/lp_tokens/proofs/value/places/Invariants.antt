use Rattle.std.proofs.Common.{◌≡◌, ◌≤◌, ◌<◌, ◌*◌, ◌^◌, drop, Some, length}
use Rattle.lp_tokens.specs.Quotients.{places_before}
use Rattle.lp_tokens.proofs.value.places.Given as goal

abbrev pub invariant-places : goal.invariant-places
invariant-places l = record {
  within : l.end ≤ length l.digits;
  some : 0 < l.quotient.1;
  small : l.quotient.1 ≤ 10 ^ 15;
  bounded : l.quotient.0 ≤ 100 * l.quotient.1;
  so_far : Some l.quotient ≡ places_before (drop l.end l.digits) (Some l.fn.behind);
}

abbrev pub decreases-places : goal.decreases-places
decreases-places l = l.end
