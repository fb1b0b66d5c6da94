use Rattle.std.proofs.Common.{◌≡◌, map}
use Rattle.propositions.specs.View.{prop_tree}
use Rattle.model_maker.specs.Generated.{first_indicators}
use Rattle.model_maker.proofs.choices.add_some_first.Given as goal

abbrev pub invariant-loop-i : goal.invariant-loop-i
invariant-loop-i l = map prop_tree l.firsts.items ≡ first_indicators l.i
