use Rattle.std.proofs.Common.{◌≡◌, true, drop, length, slice_index_or}
use Rattle.gdp_tables.specs.declared.tri.Tri.TheVariants.{No}
use Rattle.model_items.specs.Items.{conditions_of_disjunctions, conditions_of_disjuncts}
use Rattle.model_items.specs.steps.Picking.{readings, reading_at, are_disjunctions_below, are_disjuncts_below}
use Rattle.model_tree.specs.View.{disjunctions_of, disjuncts_of}
use Rattle.model_items.proofs.items.+items.Given as goal

abbrev pub invariant-find_in_disjunctions-loop-disjunction :
    goal.invariant-find_in_disjunctions-loop-disjunction
invariant-find_in_disjunctions-loop-disjunction l = record {
  below : are_disjunctions_below (length l.truths) (disjunctions_of (drop l.disjunction-index l.disjunctions)) ≡ true;
  rest : reading_at (readings (λ k. slice_index_or l.truths k No) (conditions_of_disjunctions l.under (disjunctions_of (drop l.disjunction-index l.disjunctions)))) l.left
      ≡ reading_at (readings (λ k. slice_index_or l.truths k No) (conditions_of_disjunctions l.under (disjunctions_of l.disjunctions))) l.place;
}

abbrev pub invariant-find_in_disjuncts-loop-disjunct :
    goal.invariant-find_in_disjuncts-loop-disjunct
invariant-find_in_disjuncts-loop-disjunct l = record {
  below : are_disjuncts_below (length l.truths) (disjuncts_of (drop l.disjunct-index l.disjuncts)) ≡ true;
  rest : reading_at (readings (λ k. slice_index_or l.truths k No) (conditions_of_disjuncts (disjuncts_of (drop l.disjunct-index l.disjuncts)))) l.left
      ≡ reading_at (readings (λ k. slice_index_or l.truths k No) (conditions_of_disjuncts (disjuncts_of l.disjuncts))) l.place;
}
