use Rattle.std.proofs.Common.{◌≡◌, drop, max}
use Rattle.propositions.specs.Sizes.{greatest_number_within}
use Rattle.propositions.specs.View.{prop_trees}
use Rattle.propositions.proofs.sizes.+numbers.Given as goal

abbrev pub invariant-greatest_number_within-loop-prop : goal.invariant-greatest_number_within-loop-prop
invariant-greatest_number_within-loop-prop l = max l.greatest (greatest_number_within (prop_trees (drop l.prop-index l.props))) ≡ greatest_number_within (prop_trees l.props)
