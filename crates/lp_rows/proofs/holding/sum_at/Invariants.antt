use Rattle.std.proofs.Common.{◌≡◌, true, pos, ◌+ℤ◌, length, drop}
use Rattle.int_linear.specs.Sums.{at}
use Rattle.int_linear.specs.Terms.{dot}
use Rattle.lp_rows.specs.Holding.{ids_below, sum_fits}
use Rattle.lp_rows.proofs.holding.sum_at.Given as goal

abbrev pub invariant-loop-term : goal.invariant-loop-term
invariant-loop-term l = record {
  below : ids_below (length l.nums) (drop l.term-index l.terms) ≡ true;
  value : l.sum +ℤ dot (drop l.term-index l.terms) (at l.nums) ≡ dot l.terms (at l.nums);
  fit : sum_fits l.sum (drop l.term-index l.terms) (at l.nums) ≡ sum_fits (pos 0) l.terms (at l.nums);
}
