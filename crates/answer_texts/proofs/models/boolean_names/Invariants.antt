use Rattle.std.proofs.Common.{◌≡◌, ◌++◌, map, drop}
use Rattle.answer_texts.proofs.models.boolean_names.Given as goal

abbrev pub invariant-loop-boolean : goal.invariant-loop-boolean
invariant-loop-boolean l = l.names ++ map (λ v. v.0) (drop l.boolean-index l.booleans) ≡ map (λ v. v.0) l.booleans
