-- What is claimed of a model. Nothing here knows of width or of an order of tests.
use Rattle.std.specs.Prelude.{◌≡◌, ◌≤◌, ℕ, suc, ℤ, pos, ◌+ℤ◌, ◌*ℤ◌, ◌<ℤ◌, true, false, length}
use Rattle.fractions.specs.Fraction.{Fraction, IsLowest}
use Rattle.int_linear.specs.Terms.{dot}
use Rattle.lp_rows.specs.declared.kinds.Sense.{Sense}
use Rattle.lp_rows.specs.declared.kinds.Sense.TheVariants.{Min, Max}
use Rattle.point_tests.specs.Satisfied.{PointOf, is_model_point}
use Rattle.model_tree.specs.Values.{GoalValue, ModelTree}

-- a point of the model over a positive denominator, with truths for the model's Booleans alone
pub record IsPoint (m : ModelTree) (p : PointOf) : Type 0 where
  pub over : pos 0 <ℤ p.over
  pub short : (k : ℕ) → length m.booleans ≤ k → p.truths k ≡ false
  pub point : is_model_point m p ≡ true

-- the goal at a point, times the goal's scale and the point's denominator
abbrev pub worth : GoalValue → PointOf → ℤ
worth g p = dot g.terms p.nums +ℤ g.constant *ℤ p.over

-- of two numbers the first is better
abbrev pub IsBetter : Sense → ℤ → ℤ → Type 0
IsBetter Min a b = a <ℤ b
IsBetter Max a b = b <ℤ a

-- the goal has this value at the point
abbrev pub HasValue : GoalValue → PointOf → Fraction → Type 0
HasValue g p v = v.num *ℤ (g.scale *ℤ p.over) ≡ worth g p *ℤ v.den

-- the goal is better at the point than this value
abbrev pub IsBetterAt : GoalValue → PointOf → Fraction → Type 0
IsBetterAt g p v = IsBetter g.sense (worth g p *ℤ v.den) (v.num *ℤ (g.scale *ℤ p.over))

-- no point is better
abbrev pub NoneBetter : ModelTree → Fraction → Type 0
NoneBetter m v = (p : PointOf) → IsPoint m p → IsBetterAt m.goal p v → ⊥

-- the value is the best: that of this point, and no point's is better
pub record IsBest (m : ModelTree) (p : PointOf) (v : Fraction) : Type 0 where
  pub point : IsPoint m p
  pub value : HasValue m.goal p v
  pub none_better : NoneBetter m v

-- there is no point
abbrev pub IsEmpty : ModelTree → Type 0
IsEmpty m = (p : PointOf) → IsPoint m p → ⊥

-- the point with its numerators moved along a ray, k denominators far
abbrev pub along : PointOf → (ℕ → ℤ) → ℕ → PointOf
along p ray k = record p { nums = λ j. p.nums j +ℤ pos k *ℤ p.over *ℤ ray j }

-- all along the ray are points, each better than the one before
pub record IsEndlessAt (m : ModelTree) (p : PointOf) (ray : ℕ → ℤ) (k : ℕ) : Type 0 where
  pub point : IsPoint m (along p ray k)
  pub better : IsBetter m.goal.sense (worth m.goal (along p ray (suc k))) (worth m.goal (along p ray k))

abbrev pub IsEndless : ModelTree → PointOf → (ℕ → ℤ) → Type 0
IsEndless m p ray = (k : ℕ) → IsEndlessAt m p ray k

-- what is claimed: a best value at a point, that there is no point, or a point and a ray without end
pub data Claim : Type 0 where
  best : PointOf → Fraction → Claim
  empty : Claim
  endless : PointOf → (ℕ → ℤ) → Claim

abbrev pub IsTrueOf : ModelTree → Claim → Type 0
IsTrueOf m (best p v) = IsBest m p v
IsTrueOf m empty = IsEmpty m
IsTrueOf m (endless p ray) = IsEndless m p ray

-- a value is claimed in lowest terms
abbrev pub IsInLowest : Claim → Type 0
IsInLowest (best p v) = IsLowest v
IsInLowest empty = Unit {0}
IsInLowest (endless p ray) = Unit {0}

-- two claims are of one kind, and of one value
abbrev pub AreOne : Claim → Claim → Type 0
AreOne (best p v) (best q w) = v ≡ w
AreOne (best p v) empty = ⊥
AreOne (best p v) (endless q ray) = ⊥
AreOne empty (best q w) = ⊥
AreOne empty empty = Unit {0}
AreOne empty (endless q ray) = ⊥
AreOne (endless p ray) (best q w) = ⊥
AreOne (endless p ray) empty = ⊥
AreOne (endless p ray) (endless q step) = Unit {0}
