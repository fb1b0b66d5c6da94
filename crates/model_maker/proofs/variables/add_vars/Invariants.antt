use Rattle.std.proofs.Common.{◌≡◌, ◌*◌}
use Rattle.model_builder.specs.Standing.{stands_for}
use Rattle.model_maker.specs.Draws.{after}
use Rattle.model_maker.specs.Steps.{with_vars}
use Rattle.model_maker.proofs.variables.add_vars.Given as goal

abbrev pub invariant-loop-i : goal.invariant-loop-i
invariant-loop-i l = (l.draws ≡ after l.fn.draws (2 * l.i)) × (stands_for l.builder ≡ with_vars l.fn.draws l.i)
