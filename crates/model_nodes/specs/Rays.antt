-- What a ray of the force over a model promises.
use Rattle.std.specs.Prelude.{ℕ, ℤ, List, true}
use Rattle.proof_tree.specs.declared.path.Half.{Half}
use Rattle.settling.specs.Carried.{IsForceRay}
use Rattle.point_tests.specs.Satisfied.{PointOf}
use Rattle.model_tree.specs.Sound.{IsSound}
use Rattle.model_tree.specs.Values.{ModelTree}
use Rattle.model_forces.specs.Paths.{IsPathOf}
use Rattle.model_forces.specs.Forces.{model_force_of}
use Rattle.model_forces.specs.Laws.{IsPointOn, IsDecided}
use Rattle.model_claims.specs.Claims.{along}

-- Where each Boolean is known, from a point on the path all along a ray of the force is a point on the path with the
-- same truths.
abbrev pub RayKeepsPoints : Type 0
RayKeepsPoints = (m : ModelTree) (path : List Half) (p : PointOf) (ray : ℕ → ℤ) (k : ℕ) → IsSound m → IsPathOf m path → IsPointOn m path p → IsDecided m path
    → IsForceRay (model_force_of m path true) ray → IsPointOn m path (along p ray k)
