-- What the force over a model at a path promises.
use Rattle.std.specs.Prelude.{◌≡◌, ◌<◌, ◌⊎◌, ℕ, ℤ, pos, ◌<ℤ◌, Bool, true, ◌&&◌, List, [], ◌∷◌, ◌+◌}
use Rattle.gdp_tables.specs.declared.tri.Tri.TheVariants.{No, Open}
use Rattle.gdp_tables.specs.Completions.{known}
use Rattle.lp_frame.specs.Force.{IsForcePoint, is_bounded}
use Rattle.propositions.specs.Reading.{tri_of}
use Rattle.proof_tree.specs.declared.path.Split.{Split}
use Rattle.proof_tree.specs.declared.path.Half.{Half}
use Rattle.proof_tree.specs.Paths.{first, second}
use Rattle.lp_rows.specs.Kinds.{is_of_kind}
use Rattle.point_tests.specs.Satisfied.{PointOf}
use Rattle.model_tree.specs.Sound.{IsSound}
use Rattle.model_items.specs.Items.{item_count_of, condition_of}
use Rattle.model_tree.specs.Variables.{VarValue}
use Rattle.model_tree.specs.Values.{ModelTree}
use Rattle.model_claims.specs.Claims.{IsPoint}
use Rattle.model_forces.specs.Paths.{tris_at, IsOnPath, IsPathOf, MayStand}
use Rattle.model_forces.specs.Forces.{model_force_of}

-- each variable's number is of its kind
abbrev pub are_of_kind : List VarValue → ℕ → (ℕ → ℤ) → ℤ → Bool
are_of_kind [] j nums over = true
are_of_kind (v ∷ vs) j nums over = is_of_kind v.1 (nums j) over && are_of_kind vs (j + 1) nums over

-- a point of the model on the path
pub record IsPointOn (m : ModelTree) (path : List Half) (p : PointOf) : Type 0 where
  pub point : IsPoint m p
  pub on : IsOnPath path p

-- the truths are what the path makes known
abbrev pub AreKnown : ModelTree → List Half → (ℕ → Bool) → Type 0
AreKnown m path truths = (k : ℕ) → tris_at m path k ≡ known (truths k)

-- no Boolean is open
abbrev pub IsDecided : ModelTree → List Half → Type 0
IsDecided m path = (k : ℕ) → tris_at m path k ≡ Open → ⊥

-- the force is bounded
abbrev pub ForceIsBounded : Type 0
ForceIsBounded = (m : ModelTree) (path : List Half) (goal : Bool) → IsSound m → IsPathOf m path → is_bounded (model_force_of m path goal) ≡ true

-- no point of the model on the path is excluded
abbrev pub ForceHoldsPoints : Type 0
ForceHoldsPoints = (m : ModelTree) (path : List Half) (goal : Bool) (p : PointOf) → IsSound m → IsPathOf m path → IsPointOn m path p → IsForcePoint (model_force_of m path goal) p.over p.nums

-- Where each Boolean is known, a point of the force with whole numbers for integer variables at which every item's
-- condition is true is one of the model's on the path.
abbrev pub ForcePointIsPoint : Type 0
ForcePointIsPoint = (m : ModelTree) (path : List Half) (goal : Bool) (p : PointOf) → IsSound m → IsPathOf m path → pos 0 <ℤ p.over → AreKnown m path p.truths
    → IsForcePoint (model_force_of m path goal) p.over p.nums → are_of_kind m.vars 0 p.nums p.over ≡ true
    → ((place : ℕ) → place < item_count_of m → tri_of (condition_of m place) (tris_at m path) ≡ No → ⊥) → IsPointOn m path p

-- two halves of a split that may stand hold every point
abbrev pub HalvesHoldPoints : Type 0
HalvesHoldPoints = (m : ModelTree) (path : List Half) (s : Split) (p : PointOf) → IsSound m → MayStand m path s → IsPointOn m path p → IsPointOn m (first s ∷ path) p ⊎ IsPointOn m (second s ∷ path) p

-- an item whose condition is read as false leaves no point
abbrev pub FalseItemHasNoPoint : Type 0
FalseItemHasNoPoint = (m : ModelTree) (path : List Half) (p : PointOf) (place : ℕ) → IsPathOf m path → place < item_count_of m → tri_of (condition_of m place) (tris_at m path) ≡ No → IsPointOn m path p → ⊥
