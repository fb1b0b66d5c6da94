-- The nodes of a proof over a program, and what the proof shows of the program's points.
use Rattle.std.specs.Prelude.{ℕ, ℤ, pos, ◌+ℤ◌, ◌*ℤ◌, ◌<ℤ◌, Bool, true, false, ◌&&◌, Option, Some, None}
use Rattle.fractions.specs.Fraction.{Fraction}
use Rattle.int_linear.specs.Terms.{dot}
use Rattle.lp_rows.specs.declared.kinds.Kind.{Kind}
use Rattle.lp_rows.specs.declared.kinds.Kind.TheVariants.{Real, Int}
use Rattle.fractions.specs.Width.{is_narrow}
use Rattle.proof_tree.specs.declared.path.Split.{Split}
use Rattle.proof_tree.specs.declared.path.Split.TheVariants as split
use Rattle.milps.specs.Milps.{MilpValue}
use Rattle.milp_forces.specs.Milps.{kind_at, IsMilpPoint}
use Rattle.milp_forces.specs.Forces.{force_at}
use Rattle.node_checker.specs.Subjects.{Subject}
use Rattle.node_checker.specs.Tests.{signed}
use Rattle.model_claims.specs.Claims.{IsBetter}

abbrev pub is_int : Kind → Bool
is_int Real = false
is_int Int = true

-- at no end of i128
abbrev pub is_inner : ℤ → Bool
is_inner k = is_narrow k && is_narrow (k +ℤ pos 1)

-- a split may stand at any path of a program: it is of an integer column, at no end of i128
abbrev pub may_stand : MilpValue → Split → Bool
may_stand m (split.Int column k) = is_int (kind_at m.cols column) && is_inner k
may_stand m (split.Truth id) = false

-- a program has no items that could be false
abbrev pub subject_of : MilpValue → Subject
subject_of m = record {
  force = λ p. force_at m p true;
  allows = λ p s. may_stand m s;
  is_false = λ p item. false;
}

-- what the nodes are to show for a best value, or for no point at all
abbrev pub least_for : MilpValue → Option Fraction → Option Fraction
least_for m None = None
least_for m (Some v) = Some (signed m.sense v.num v.den)

-- the goal is better at the numbers over the denominator than the value
abbrev pub IsBetterThan : MilpValue → ℤ → (ℕ → ℤ) → Fraction → Type 0
IsBetterThan m over numbers v = IsBetter m.sense (dot m.goal numbers *ℤ v.den) (v.num *ℤ over)

-- no point of the program is better than the value, or there is no point
abbrev pub IsShownOf : MilpValue → Option Fraction → Type 0
IsShownOf m None = (over : ℤ) (numbers : ℕ → ℤ) → pos 0 <ℤ over → IsMilpPoint m over numbers → ⊥
IsShownOf m (Some v) = (over : ℤ) (numbers : ℕ → ℤ) → pos 0 <ℤ over → IsMilpPoint m over numbers → IsBetterThan m over numbers v → ⊥
