use Rattle.std.proofs.Common.{◌≡◌, ◌≤◌, drop, min, ◌^◌, ◌-◌, ◌+◌}
use Rattle.propositions.specs.Sizes.{node_count_within}
use Rattle.propositions.specs.View.{prop_trees}
use Rattle.propositions.proofs.sizes.+nodes.Given as goal

abbrev pub invariant-sum_of_nodes-loop-prop : goal.invariant-sum_of_nodes-loop-prop
invariant-sum_of_nodes-loop-prop l = record {
  small : l.sum ≤ 2 ^ 64 - 1;
  rest : min (l.sum + node_count_within (prop_trees (drop l.prop-index l.props))) (2 ^ 64 - 1) ≡ min (node_count_within (prop_trees l.props)) (2 ^ 64 - 1);
}
