use Rattle.std.proofs.Common.{◌≡◌, drop, max, min, ◌^◌, ◌-◌}
use Rattle.propositions.specs.Sizes.{depth_within}
use Rattle.propositions.specs.View.{prop_trees}
use Rattle.propositions.proofs.sizes.+depth.Given as goal

abbrev pub invariant-greatest_depth-loop-prop : goal.invariant-greatest_depth-loop-prop
invariant-greatest_depth-loop-prop l = max l.deepest (min (depth_within (prop_trees (drop l.prop-index l.props))) (2 ^ 64 - 1)) ≡ min (depth_within (prop_trees l.props)) (2 ^ 64 - 1)
