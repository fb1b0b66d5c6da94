use Rattle.std.proofs.Common.{◌≡◌, ◌+◌, drop}
use Rattle.model_items.specs.steps.Picking.{item_total_below, item_total_within}
use Rattle.model_tree.specs.View.{disjunctions_of, disjuncts_of}
use Rattle.model_items.proofs.items.+count.Given as goal

abbrev pub invariant-count_in_disjunctions-loop-disjunction :
    goal.invariant-count_in_disjunctions-loop-disjunction
invariant-count_in_disjunctions-loop-disjunction l =
    l.count + item_total_below (disjunctions_of (drop l.disjunction-index l.disjunctions)) ≡ item_total_below (disjunctions_of l.disjunctions)

abbrev pub invariant-count_in_disjuncts-loop-disjunct :
    goal.invariant-count_in_disjuncts-loop-disjunct
invariant-count_in_disjuncts-loop-disjunct l =
    l.count + item_total_within (disjuncts_of (drop l.disjunct-index l.disjuncts)) ≡ item_total_within (disjuncts_of l.disjuncts)
