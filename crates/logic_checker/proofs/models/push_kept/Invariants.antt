use Rattle.std.proofs.Common.{◌≡◌, ◌++◌, drop}
use Rattle.model_forces.specs.Forces.{rows_of_path}
use Rattle.logic_checker.proofs.models.push_kept.Given as goal

abbrev pub invariant-vars : goal.invariant-vars
invariant-vars l = record {
  all : l.rows ++ rows_of_path (drop l._variable-index l.vars) l.column l.trail ≡ l.initial.rows ++ rows_of_path l.vars 0 l.trail;
  column : l.column ≡ l._variable-index;
}
