use Rattle.std.proofs.Common.{◌≡◌, ◌*◌}
use Rattle.model_maker.specs.Draws.{after}
use Rattle.model_maker.specs.Generated.{goal_terms}
use Rattle.model_maker.specs.Steps.{as_fractions}
use Rattle.model_maker.proofs.variables.add_goal.Given as goal

abbrev pub invariant-loop-i : goal.invariant-loop-i
invariant-loop-i l = (l.draws ≡ after l.fn.draws (2 * l.i)) × (l.terms.items ≡ as_fractions (goal_terms l.fn.draws l.i))
