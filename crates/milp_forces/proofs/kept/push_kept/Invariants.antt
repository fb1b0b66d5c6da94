use Rattle.std.proofs.Common.{◌≡◌, ◌++◌, drop}
use Rattle.milp_forces.specs.Forces.{path_rows}
use Rattle.milp_forces.proofs.kept.push_kept.Given as goal

abbrev pub invariant-cols : goal.invariant-cols
invariant-cols l = record {
  all : l.rows ++ path_rows l.trail l.col-index (drop l.col-index l.cols) ≡ l.initial.rows ++ path_rows l.trail 0 l.cols;
  column : l.column ≡ l.col-index;
}
