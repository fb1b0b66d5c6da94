use Rattle.std.proofs.Common.{◌≡◌, ◌++◌, drop, slice_index_or}
use Rattle.gdp_tables.specs.declared.tri.Tri.TheVariants.{No}
use Rattle.model_tree.specs.View.{disjuncts_of, disjunctions_of}
use Rattle.model_forces.specs.Forces.{rows_of_disjunctions, rows_of_disjuncts}
use Rattle.model_forces.proofs.force.+force.Given as goal

abbrev pub invariant-push_disjunctions-loop-disjunction :
    goal.invariant-push_disjunctions-loop-disjunction
invariant-push_disjunctions-loop-disjunction l =
    l.rows ++ rows_of_disjunctions (disjunctions_of (drop l.disjunction-index l.disjunctions)) (λ k. slice_index_or l.tris k No)
    ≡ l.initial.rows ++ rows_of_disjunctions (disjunctions_of l.disjunctions) (λ k. slice_index_or l.tris k No)

abbrev pub invariant-push_disjuncts-loop-disjunct : goal.invariant-push_disjuncts-loop-disjunct
invariant-push_disjuncts-loop-disjunct l =
    l.rows ++ rows_of_disjuncts (disjuncts_of (drop l.disjunct-index l.disjuncts)) (λ k. slice_index_or l.tris k No)
    ≡ l.initial.rows ++ rows_of_disjuncts (disjuncts_of l.disjuncts) (λ k. slice_index_or l.tris k No)
