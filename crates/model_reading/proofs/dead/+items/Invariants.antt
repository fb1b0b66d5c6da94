use Rattle.std.proofs.Common.{◌≡◌, ◌<◌, ◌+◌, ◌^◌, true, drop, length, slice_index_or}
use Rattle.gdp_tables.specs.declared.tri.Tri.TheVariants.{No}
use Rattle.model_items.specs.Items.{conditions_of_disjunctions, conditions_of_disjuncts}
use Rattle.model_items.specs.steps.Picking.{are_disjunctions_below, are_disjuncts_below}
use Rattle.model_tree.specs.View.{disjunctions_of, disjuncts_of}
use Rattle.model_reading.specs.Passing.{passed}
use Rattle.model_reading.proofs.dead.+items.Given as goal

abbrev pub invariant-pass_disjunctions-loop-disjunction :
    goal.invariant-pass_disjunctions-loop-disjunction
invariant-pass_disjunctions-loop-disjunction l = record {
  below : are_disjunctions_below (length l.tris) (disjunctions_of (drop l.disjunction-index l.disjunctions)) ≡ true;
  few : l.next + length (conditions_of_disjunctions l.under (disjunctions_of (drop l.disjunction-index l.disjunctions))) < 2 ^ 32;
  rest : passed (λ k. slice_index_or l.tris k No) (conditions_of_disjunctions l.under (disjunctions_of (drop l.disjunction-index l.disjunctions))) l.next
      ≡ passed (λ k. slice_index_or l.tris k No) (conditions_of_disjunctions l.under (disjunctions_of l.disjunctions)) l.from;
}

abbrev pub invariant-pass_disjuncts-loop-disjunct :
    goal.invariant-pass_disjuncts-loop-disjunct
invariant-pass_disjuncts-loop-disjunct l = record {
  below : are_disjuncts_below (length l.tris) (disjuncts_of (drop l.disjunct-index l.disjuncts)) ≡ true;
  few : l.next + length (conditions_of_disjuncts (disjuncts_of (drop l.disjunct-index l.disjuncts))) < 2 ^ 32;
  rest : passed (λ k. slice_index_or l.tris k No) (conditions_of_disjuncts (disjuncts_of (drop l.disjunct-index l.disjuncts))) l.next
      ≡ passed (λ k. slice_index_or l.tris k No) (conditions_of_disjuncts (disjuncts_of l.disjuncts)) l.from;
}
