use Rattle.std.proofs.Common.{◌≡◌, drop}
use Rattle.propositions.specs.Sizes.{has_empty_list_within}
use Rattle.propositions.specs.View.{prop_trees}
use Rattle.propositions.proofs.sizes.+lists.Given as goal

abbrev pub invariant-have_empty_list-loop-prop : goal.invariant-have_empty_list-loop-prop
invariant-have_empty_list-loop-prop l = has_empty_list_within (prop_trees (drop l.prop-index l.props)) ≡ has_empty_list_within (prop_trees l.props)
