use Rattle.std.proofs.Common.{◌≡◌, ◌++◌, map, drop}
use Rattle.answer_texts.proofs.models.variable_names.Given as goal

abbrev pub invariant-loop-variable : goal.invariant-loop-variable
invariant-loop-variable l = l.names ++ map (λ v. v.0) (drop l.variable-index l.variables) ≡ map (λ v. v.0) l.variables
