use Rattle.std.proofs.Common.{◌≡◌, ◌≤◌, true, drop, length}
use Rattle.lp_grammar.specs.Reading.{bound_rows, is_within}
use Rattle.lp_parts.specs.Grown.{with_rows}
use Rattle.lp_parts.specs.Stored.{AreStoredBounds}
use Rattle.lp_parts.proofs.building.push_bounds.Given as goal

abbrev pub invariant-columns : goal.invariant-columns
invariant-columns l = record {
  within : is_within l.milp ≡ true;
  columns : length l.columns ≤ length l.milp.cols;
  bounds : AreStoredBounds (drop l.id l.columns);
  so_far : with_rows l.milp (bound_rows l.id (drop l.id l.columns)) ≡ with_rows l.fn.milp (bound_rows 0 l.columns);
}
