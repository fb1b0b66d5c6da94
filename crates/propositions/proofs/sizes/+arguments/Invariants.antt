use Rattle.std.proofs.Common.{◌≡◌, drop, max}
use Rattle.propositions.specs.Sizes.{most_arguments_within}
use Rattle.propositions.specs.View.{prop_trees}
use Rattle.propositions.proofs.sizes.+arguments.Given as goal

abbrev pub invariant-most_arguments_within-loop-prop : goal.invariant-most_arguments_within-loop-prop
invariant-most_arguments_within-loop-prop l = max l.most (most_arguments_within (prop_trees (drop l.prop-index l.props))) ≡ most_arguments_within (prop_trees l.props)
