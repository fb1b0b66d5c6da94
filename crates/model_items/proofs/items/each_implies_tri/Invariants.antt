use Rattle.std.proofs.Common.{◌≡◌, drop, slice_index_or}
use Rattle.gdp_tables.specs.declared.tri.Tri.TheVariants.{No}
use Rattle.gdp_tables.specs.Readings.{and_of}
use Rattle.propositions.specs.Reading.{tris_of, and_all}
use Rattle.model_items.specs.Items.{each_implies}
use Rattle.model_tree.specs.View.{disjuncts_of}
use Rattle.model_items.proofs.items.each_implies_tri.Given as goal

abbrev pub invariant-loop-disjunct : goal.invariant-loop-disjunct
invariant-loop-disjunct l =
    and_of l.all (and_all (tris_of (each_implies l.number (disjuncts_of (drop l.disjunct-index l.disjuncts))) (λ k. slice_index_or l.truths k No)))
    ≡ and_all (tris_of (each_implies l.number (disjuncts_of l.disjuncts)) (λ k. slice_index_or l.truths k No))
