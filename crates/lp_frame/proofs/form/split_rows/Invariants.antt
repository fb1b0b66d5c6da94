use Rattle.std.proofs.Common.{◌≡◌, ◌++◌, true, length, drop, map}
use Rattle.std.specs.List.{list_all}
use Rattle.lp_frame.specs.Force.{is_row}
use Rattle.lp_frame.specs.Standard.{split_row}
use Rattle.lp_frame.proofs.form.split_rows.Given as goal

abbrev pub invariant-loop-row : goal.invariant-loop-row
invariant-loop-row l = record {
  good : list_all (is_row (length l.cols)) (drop l.row-index l.rows) ≡ true;
  rest : l.split ++ map (split_row l.cols) (drop l.row-index l.rows) ≡ map (split_row l.cols) l.rows;
}
