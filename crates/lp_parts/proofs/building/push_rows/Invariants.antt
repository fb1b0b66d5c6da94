use Rattle.std.proofs.Common.{◌≡◌, true, drop, length}
use Rattle.lp_grammar.specs.Programs.{AreStoredRows}
use Rattle.lp_grammar.specs.Reading.{is_within}
use Rattle.lp_parts.specs.Grown.{with_rows}
use Rattle.lp_parts.proofs.building.push_rows.Given as goal

abbrev pub invariant-rows : goal.invariant-rows
invariant-rows l = record {
  within : is_within l.milp ≡ true;
  stored : AreStoredRows (length l.milp.cols) (drop l.row-index l.rows);
  so_far : with_rows l.milp (drop l.row-index l.rows) ≡ with_rows l.fn.milp l.rows;
}
