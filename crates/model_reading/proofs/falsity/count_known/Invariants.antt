use Rattle.std.proofs.Common.{◌≡◌, ◌≤◌, ◌+◌, drop, slice_index_or}
use Rattle.gdp_tables.specs.declared.tri.Tri.TheVariants.{No}
use Rattle.propositions.specs.Reading.{tris_of, yes_count, open_count}
use Rattle.model_items.specs.Items.{indicators_of}
use Rattle.model_tree.specs.View.{disjuncts_of}
use Rattle.model_reading.proofs.falsity.count_known.Given as goal

abbrev pub invariant-loop-disjunct : goal.invariant-loop-disjunct
invariant-loop-disjunct l = record {
  few : l.yes + l.undecided ≤ l.disjunct-index;
  yes : l.yes + yes_count (tris_of (indicators_of (disjuncts_of (drop l.disjunct-index l.disjuncts))) (λ k. slice_index_or l.tris k No))
      ≡ yes_count (tris_of (indicators_of (disjuncts_of l.disjuncts)) (λ k. slice_index_or l.tris k No));
  undecided : l.undecided + open_count (tris_of (indicators_of (disjuncts_of (drop l.disjunct-index l.disjuncts))) (λ k. slice_index_or l.tris k No))
      ≡ open_count (tris_of (indicators_of (disjuncts_of l.disjuncts)) (λ k. slice_index_or l.tris k No));
}
