-- The standard form of a force: the same rows and goal over columns that are all non-negative.
use Rattle.std.specs.Prelude.{◌≡◌, ◌<◌, ℕ, List, length, map, ℤ, pos, ◌≤ℤ◌, Bool, ◌&&◌, nat_le, All}
use Rattle.std.specs.List.{list_all}
use Rattle.int_linear.specs.Sums.{at}
use Rattle.int_linear.specs.Terms.{dot}
use Rattle.lp_rows.specs.Points.{PointValue}
use Rattle.lp_rows.specs.declared.columns.Col.{Col}
use Rattle.lp_frame.specs.declared.force.AtMost.{AtMost}
use Rattle.lp_frame.specs.declared.force.Force.{Force}
use Rattle.lp_frame.specs.Force.{HoldsAt, IsForcePoint, is_row, are_terms}
use Rattle.lp_frame.specs.Split.{place, split_terms, lifted, AreLifted}

-- a standard form: how many columns, its at-most rows, and its goal, which is to be minimised
pub record Standard : Type 0 where
  pub columns : ℕ
  pub rows : List AtMost
  pub goal : List (ℕ × ℤ)

-- at most 4,000 rows and 4,000 columns, over which rows and goal are
abbrev pub is_standard : Standard → Bool
is_standard form =
    nat_le (length form.rows) 4000 && nat_le form.columns 4000
    && list_all (is_row form.columns) form.rows && are_terms form.columns form.goal

-- a point of the standard form: no number is negative, and the rows hold
pub record IsStandardPoint (form : Standard) (over : ℤ) (numbers : ℕ → ℤ) : Type 0 where
  pub signs : (k : ℕ) → k < form.columns → pos 0 ≤ℤ numbers k
  pub rows : All (HoldsAt over numbers) form.rows

-- a row over the split columns
abbrev pub split_row : List Col → AtMost → AtMost
split_row cols row = record { terms = split_terms cols row.terms; bound = row.bound }

-- the force with its free columns split
abbrev pub standard_of : Force → Standard
standard_of force = record {
  columns = place force.cols (length force.cols);
  rows = map (split_row force.cols) force.rows;
  goal = split_terms force.cols force.goal;
}

-- split numbers of these numbers: they are a point of the form, give these numbers back, and have
-- the same goal
pub record IsSplit (force : Force) (form : Standard) (over : ℤ) (numbers split : ℕ → ℤ) : Type 0 where
  pub point : IsStandardPoint form over split
  pub back : (j : ℕ) → j < length force.cols → lifted force.cols split j ≡ numbers j
  pub goal : dot form.goal split ≡ dot force.goal numbers

-- Force and form have the same points and the same goal, both ways: what a point of the form lifts
-- to is a point of the force with the same goal, and each point of the force is split by a point of
-- the form.
pub record SamePoints (force : Force) (form : Standard) : Type 0 where
  pub lifts : (over : ℤ) (split : ℕ → ℤ) → IsStandardPoint form over split
      → IsForcePoint force over (lifted force.cols split)
  pub goal : (split : ℕ → ℤ) → dot form.goal split ≡ dot force.goal (lifted force.cols split)
  pub splits : (over : ℤ) (numbers : ℕ → ℤ) → IsForcePoint force over numbers
      → (split : ℕ → ℤ) × IsSplit force form over numbers split

-- the point that a point over the split columns lifts to
pub record IsLifted (cols : List Col) (split point : PointValue) : Type 0 where
  pub over : point.over ≡ split.over
  pub nums : AreLifted cols split.nums point.nums

-- the lifted point is a point of the force wherever the split one is of the standard form, with the
-- same goal
pub record KeepsPoint (force : Force) (split point : PointValue) : Type 0 where
  pub stays : IsStandardPoint (standard_of force) split.over (at split.nums)
      → IsForcePoint force point.over (at point.nums)
  pub goal : dot force.goal (at point.nums) ≡ dot (standard_of force).goal (at split.nums)
