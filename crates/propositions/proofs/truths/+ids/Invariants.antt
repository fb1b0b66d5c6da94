use Rattle.std.proofs.Common.{◌≡◌, drop}
use Rattle.propositions.specs.Truth.{are_all_ids_below}
use Rattle.propositions.specs.View.{prop_trees}
use Rattle.propositions.proofs.truths.+ids.Given as goal

abbrev pub invariant-have_ids_below-loop-prop : goal.invariant-have_ids_below-loop-prop
invariant-have_ids_below-loop-prop l =
    are_all_ids_below l.count (prop_trees (drop l.prop-index l.props)) ≡ are_all_ids_below l.count (prop_trees l.props)
