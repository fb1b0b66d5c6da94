use Rattle.std.proofs.Common.{◌≡◌, ◌*◌}
use Rattle.model_builder.specs.Standing.{stands_for}
use Rattle.model_maker.specs.Draws.{after}
use Rattle.model_maker.specs.Steps.{with_choices}
use Rattle.model_maker.proofs.choices.add_choices.Given as goal

abbrev pub invariant-loop-i : goal.invariant-loop-i
invariant-loop-i l = (l.draws ≡ after l.fn.draws (4 * l.i)) × (stands_for l.builder ≡ with_choices (stands_for l.fn.builder) l.fn.draws l.size l.i)
