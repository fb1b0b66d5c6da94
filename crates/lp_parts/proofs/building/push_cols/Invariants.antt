use Rattle.std.proofs.Common.{◌≡◌, true, map, drop}
use Rattle.lp_grammar.specs.Reading.{col_of, is_within}
use Rattle.lp_parts.specs.Grown.{with_cols}
use Rattle.lp_parts.proofs.building.push_cols.Given as goal

abbrev pub invariant-columns : goal.invariant-columns
invariant-columns l = record {
  within : is_within l.milp ≡ true;
  so_far : with_cols l.milp (map col_of (drop l.column-index l.columns)) ≡ with_cols l.fn.milp (map col_of l.columns);
}
