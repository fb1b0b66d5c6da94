use Rattle.std.proofs.Common.{◌≡◌, ◌++◌, drop, true}
use Rattle.model_tree.specs.Bounds.{are_bounds}
use Rattle.model_forces.specs.Forces.{rows_of_vars}
use Rattle.model_forces.proofs.force.push_vars.Given as goal

abbrev pub invariant-vars : goal.invariant-vars
invariant-vars l = record {
  all : l.rows ++ rows_of_vars (drop l.variable-index l.vars) l.variable-index ≡ l.initial.rows ++ rows_of_vars l.vars 0;
  bounds : are_bounds (drop l.variable-index l.vars) ≡ true;
  column : l.column ≡ l.variable-index;
}
