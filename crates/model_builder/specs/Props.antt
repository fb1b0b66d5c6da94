-- Propositions in a builder: what the call that adds one answers and leaves.
use Rattle.std.specs.Prelude.{ℕ, ◌+◌, not, ◌||◌, List, [], ◌∷◌, ◌++◌, length, Option, None, Some, is_some, Result, nat_le}
use Rattle.outcomes.specs.Calls.{refuse_if, unless}
use Rattle.propositions.specs.Sizes.{node_count_of}
use Rattle.propositions.specs.Tree.{PropTree}
use Rattle.propositions.specs.Truth.{are_ids_below}
use Rattle.model_tree.specs.declared.errors.BuildError.{BuildError}
use Rattle.model_tree.specs.declared.errors.BuildError.TheVariants.{Place, NameUnknown, Number, Nesting, Limit}
use Rattle.model_tree.specs.PropLimits.{has_small_numbers, is_shallow_prop, has_fair_lists}
use Rattle.model_tree.specs.Limits.{most_nodes}
use Rattle.model_builder.specs.Building.{OpenBlock, OpenDisjunction, BuildingValue}
use Rattle.model_tree.specs.Tree.{nodes_of_props, node_total_below, node_total_within}
use Rattle.model_tree.specs.View.{disjuncts, disjunctions}

-- how many nodes the propositions of an open block and those below it have
abbrev pub nodes_in_open : OpenBlock → ℕ
nodes_in_open o = nodes_of_props o.props + node_total_below (disjunctions o.closed)

-- how many the propositions in an open disjunction have, where there is one
abbrev pub nodes_in_opened : Option OpenDisjunction → ℕ
nodes_in_opened None = 0
nodes_in_opened (Some d) = node_total_within (disjuncts d.closed)

-- how many those in open blocks and their open disjunctions have
abbrev pub nodes_around : List (OpenBlock × OpenDisjunction) → ℕ
nodes_around [] = 0
nodes_around (o ∷ os) = nodes_in_open o.0 + node_total_within (disjuncts o.1.closed) + nodes_around os

-- how many nodes all propositions have so far
abbrev pub nodes_so_far : BuildingValue → ℕ
nodes_so_far b = nodes_in_open b.inner + nodes_in_opened b.opened + nodes_around b.outer

-- why a proposition is refused
abbrev pub refusal_of_prop : PropTree → BuildingValue → Option BuildError
refusal_of_prop p b =
    refuse_if (is_some b.opened) Place
    (refuse_if (not (are_ids_below (length b.booleans) p)) NameUnknown
    (refuse_if (not (has_small_numbers p)) Number
    (refuse_if (not (is_shallow_prop p)) Nesting
    (refuse_if (not (has_fair_lists p) || not (nat_le (nodes_so_far b + node_count_of p) most_nodes)) Limit None))))

-- a proposition is appended to the innermost open block
abbrev pub prop_outcome : PropTree → ℕ → BuildingValue → Result (Unit {0}) BuildError × BuildingValue
prop_outcome p mark b =
    unless (refusal_of_prop p b) b tt (record b { inner = record b.inner { props = b.inner.props ++ (p, mark) ∷ [] } })
