-- The nodes of a program: the test of a point, and the problem that they are of.
use Rattle.std.specs.Prelude.{◌≡◌, ◌/◌, ◌%◌, ℕ, suc, ℤ, pos, negsuc, ◌+ℤ◌, ◌*ℤ◌, ◌<ℤ◌, Bool, true, false, not, ◌&&◌, List, [], ◌∷◌, Option, Some, None, Result, Ok, Err, int_lt, nat_eq, unsigned_abs, if◌then◌else◌}
use Rattle.int_linear.specs.Sums.{at}
use Rattle.int_linear.specs.Terms.{dot}
use Rattle.lp_rows.specs.declared.columns.Col.{Col}
use Rattle.lp_rows.specs.declared.columns.WideAt.{WideAt}
use Rattle.lp_rows.specs.declared.columns.WideAt.TheVariants.{Value}
use Rattle.lp_rows.specs.declared.kinds.Kind.{Kind}
use Rattle.lp_rows.specs.declared.kinds.Kind.TheVariants.{Real, Int}
use Rattle.lp_rows.specs.Points.{PointValue}
use Rattle.fractions.specs.Width.{is_narrow}
use Rattle.proof_tree.specs.declared.path.Split.TheVariants as split
use Rattle.proof_tree.specs.declared.path.Half.{Half}
use Rattle.settling.specs.declared.ending.Found.{Found}
use Rattle.settling.specs.declared.ending.Found.TheVariants as found
use Rattle.search_rules.specs.Claims.{Candidate}
use Rattle.search_rules.specs.Problem.{Problem}
use Rattle.milps.specs.Milps.{MilpValue}
use Rattle.milp_forces.specs.Milps.{IsMilpPoint, IsOnPath, Allows}
use Rattle.search_rules.specs.Machine.{Meaning}
use Rattle.search_rules.specs.Turns.{meaning_of}
use Rattle.milp_forces.specs.Forces.{goal_of, force_at}

-- the number over the denominator is whole
abbrev pub is_whole : ℤ → ℤ → Bool
is_whole number over = nat_eq (unsigned_abs number % unsigned_abs over) 0

-- an integer column's number that is not whole
abbrev pub is_broken : Kind → ℤ → ℤ → Bool
is_broken Real number over = false
is_broken Int number over = not (is_whole number over)

-- the first integer column, from column j on, whose number is not whole
abbrev pub broken_from : List Col → ℕ → PointValue → Option ℕ
broken_from [] j x = None
broken_from (c ∷ cs) j x = if is_broken c.kind (at x.nums j) x.over then Some j else broken_from cs (suc j) x

-- the greatest whole number that is at most the number over the denominator
abbrev pub floor : ℤ → ℤ → ℤ
floor (pos n) over = pos (n / unsigned_abs over)
floor (negsuc n) over = negsuc (n / unsigned_abs over)

-- at no end of i128
abbrev pub is_inner : ℤ → Bool
is_inner k = is_narrow k && is_narrow (k +ℤ pos 1)

-- the split of a column at a number, wide at an end of i128
abbrev pub split_at : ℕ → ℤ → Result Found WideAt
split_at j k = if is_inner k then Ok (found.Split (split.Int j k)) else Err Value

-- what the test finds at the first integer column whose number is not whole
abbrev pub tested : PointValue → Option ℕ → Result Found WideAt
tested x None = Ok (found.Point [])
tested x (Some j) = split_at j (floor (at x.nums j) x.over)

-- what the test of a point finds: a split of the first integer column whose number is not whole, at its floor; else a
-- point of the program
abbrev pub test_at : MilpValue → PointValue → Result Found WideAt
test_at m x = if int_lt (pos 0) x.over then tested x (broken_from m.cols 0 x) else Err Value

-- from a point along a ray all is a point, each with a lower goal than the one before
pub record IsEndless (m : MilpValue) (over : ℤ) (numbers ray : ℕ → ℤ) (k : ℕ) : Type 0 where
  pub point : IsMilpPoint m over (λ j. numbers j +ℤ pos k *ℤ over *ℤ ray j)
  pub lower : dot (goal_of m true) (λ j. numbers j +ℤ pos (suc k) *ℤ over *ℤ ray j) <ℤ dot (goal_of m true) (λ j. numbers j +ℤ pos k *ℤ over *ℤ ray j)

-- a point of the program on a path
pub record IsPointAt (m : MilpValue) (p : List Half) (x : Candidate) : Type 0 where
  pub over : pos 0 <ℤ x.at.over
  pub point : IsMilpPoint m x.at.over (at x.at.nums)
  pub on_path : IsOnPath p x.at.over (at x.at.nums)
  pub truths : x.truths ≡ []

-- the problem of a program: its points on a path, its goal, its splits and its rays
abbrev pub problem_of : MilpValue → Problem
problem_of m = record {
  holds = λ p x. IsPointAt m p x;
  goal = goal_of m true;
  allows = λ p s. Allows m s;
  is_false = λ p item. ⊥;
  endless = λ x ray. (k : ℕ) → IsEndless m x.at.over (at x.at.nums) (at ray) k;
}

-- what a search over the program means: nothing is dead or loose, and what holds at a path is the program's force there
abbrev pub milp_meaning : MilpValue → Meaning
milp_meaning m = meaning_of (λ p. None) (λ p goal. force_at m p goal) (λ p. None) (λ p x. test_at m x)
