use Rattle.std.proofs.Common.{◌≡◌, drop, slice_index_or}
use Rattle.gdp_tables.specs.declared.tri.Tri.TheVariants.{No}
use Rattle.model_tree.specs.View.{disjuncts_of}
use Rattle.model_reading.specs.Passing.{has_yes}
use Rattle.model_reading.proofs.falsity.has_true.Given as goal

abbrev pub invariant-loop-disjunct : goal.invariant-loop-disjunct
invariant-loop-disjunct l =
    has_yes (disjuncts_of (drop l.disjunct-index l.disjuncts)) (λ k. slice_index_or l.tris k No) ≡ has_yes (disjuncts_of l.disjuncts) (λ k. slice_index_or l.tris k No)
