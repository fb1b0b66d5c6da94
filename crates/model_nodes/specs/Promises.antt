-- What the nodes of a model promise.
use Rattle.std.specs.Prelude.{◌≡◌, true, Bool, None, List}
use Rattle.int_linear.specs.Sums.{at}
use Rattle.lp_rows.specs.Points.{PointValue}
use Rattle.lp_frame.specs.Force.{IsForcePoint}
use Rattle.proof_tree.specs.declared.path.Half.{Half}
use Rattle.search_rules.specs.Problem.{AreNodes}
use Rattle.point_tests.specs.Satisfied.{point_of, is_model_point}
use Rattle.model_tree.specs.Sound.{IsSound}
use Rattle.model_tree.specs.Values.{ModelTree}
use Rattle.model_forces.specs.Paths.{IsPathOf}
use Rattle.model_forces.specs.Forces.{model_force_of}
use Rattle.model_reading.specs.Reading.{first_false}
use Rattle.model_nodes.specs.Nodes.{model_problem, model_meaning, model_split, is_proper, truths_at}

-- the nodes of a model promise what a search needs
abbrev pub ModelNodesPromise : Type 0
ModelNodesPromise = (m : ModelTree) → IsSound m → AreNodes (model_problem m) (model_meaning m)

-- where no item is false, a point of the force at which there is no split is one of the model's
abbrev pub PointOrSplit : Type 0
PointOrSplit = (m : ModelTree) (path : List Half) (goal : Bool) (x : PointValue) → IsSound m → IsPathOf m path → is_proper m x ≡ true → first_false m path ≡ None
    → IsForcePoint (model_force_of m path goal) x.over (at x.nums) → model_split m path x ≡ None → is_model_point m (point_of x (truths_at m path)) ≡ true
