-- What multipliers that pass their tests show of a force.
use Rattle.std.specs.Prelude.{◌≡◌, ◌<◌, ◌⊎◌, ℕ, ℤ, pos, neg_ℤ, ◌+ℤ◌, ◌*ℤ◌, ◌≤ℤ◌, ◌<ℤ◌, true, List, length, Some, None, Result, Ok, Err}
use Rattle.int_linear.specs.Terms.{dot, coefficients}
use Rattle.lp_rows.specs.declared.columns.Sign.{Sign}
use Rattle.lp_rows.specs.declared.columns.Sign.TheVariants.{Free, Nonneg}
use Rattle.lp_rows.specs.declared.columns.WideAt.{WideAt}
use Rattle.lp_frame.specs.declared.force.Force.{Force}
use Rattle.lp_frame.specs.Force.{IsForcePoint}
use Rattle.lp_frame.specs.Split.{sign_at}
use Rattle.closing.specs.Rows.{entries}
use Rattle.closing.specs.Closing.{are_multipliers}

-- a column of this sign may have this sum: at least 0, and 0 where the column is free
abbrev pub MayStand : Sign → ℤ → Type 0
MayStand Nonneg sum = pos 0 ≤ℤ sum
MayStand Free sum = sum ≡ pos 0

-- The multipliers refute the force (a Farkas certificate): the combined row has no coefficient that a column may not have, and a negative bound.
pub record Refutes (force : Force) (multipliers : List (ℕ × ℤ)) : Type 0 where
  pub signs : are_multipliers (length force.rows) multipliers ≡ true
  pub columns : (j : ℕ) → j < length force.cols → MayStand (sign_at force.cols j) (dot multipliers (entries force.rows (Some j)))
  pub negative : dot multipliers (entries force.rows None) <ℤ pos 0

-- The multipliers bound the goal from below by right / scale.
pub record BoundsBelow (force : Force) (right scale : ℤ) (multipliers : List (ℕ × ℤ)) : Type 0 where
  pub positive : pos 0 <ℤ scale
  pub signs : are_multipliers (length force.rows) multipliers ≡ true
  pub columns : (j : ℕ) → j < length force.cols → MayStand (sign_at force.cols j) (scale *ℤ coefficients force.goal j +ℤ dot multipliers (entries force.rows (Some j)))
  pub bound : dot multipliers (entries force.rows None) ≡ neg_ℤ right

-- the answer, unless a number is wide
abbrev pub IsUnlessWide : {A : Type 0} → A → Result A WideAt → Type 0
IsUnlessWide answer result = (result ≡ Ok answer) ⊎ ((place : WideAt) × (result ≡ Err place))

-- no point satisfies the force
abbrev pub HasNoPoint : Force → Type 0
HasNoPoint force = (over : ℤ) (numbers : ℕ → ℤ) → pos 0 <ℤ over → ¬ IsForcePoint force over numbers

-- at each point the goal is at least right / scale
abbrev pub IsBoundedBelow : Force → ℤ → ℤ → Type 0
IsBoundedBelow force right scale = (over : ℤ) (numbers : ℕ → ℤ) → IsForcePoint force over numbers → (right *ℤ over) ≤ℤ (scale *ℤ dot force.goal numbers)
