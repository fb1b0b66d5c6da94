-- The points and rays that are written: a number for each name, in lowest terms.
use Rattle.std.specs.Prelude.{◌≡◌, ◌<◌, ℕ, ℤ, List, length}
use Rattle.int_linear.specs.Sums.{at}
use Rattle.lp_rows.specs.Points.{PointValue}
use Rattle.lowest_terms.specs.Terms.{IsLowestOf}

-- as many of these numbers, 0 past their end
pub record AreFirst (count : ℕ) (numbers first : List ℤ) : Type 0 where
  pub length : length first ≡ count
  pub same : (j : ℕ) → j < count → at first j ≡ at numbers j

-- y is in lowest terms the point x with as many numbers
pub record IsLowestIn (count : ℕ) (x y : PointValue) : Type 0 where
  pub full : PointValue
  pub over : full.over ≡ x.over
  pub are_first : AreFirst count x.nums full.nums
  pub lowest : IsLowestOf full y
