-- Points and rays of a program, cut to the variables and Booleans of a model.
use Rattle.std.specs.Prelude.{◌≡◌, ◌<◌, ◌+◌, ℕ, zero, suc, ℤ, pos, ◌<ℤ◌, Bool, true, false, List, [], ◌∷◌, ◌++◌, length, int_lt, slice_index_or}
use Rattle.int_linear.specs.Sums.{at}
use Rattle.lp_rows.specs.Points.{PointValue}
use Rattle.model_tree.specs.Values.{ModelTree}
use Rattle.emission.specs.Sums.{pick}
use Rattle.milps.specs.Milps.{MilpValue, is_milp_point}
use Rattle.hybrid_rewrite.specs.Rewritten.{IsExactRewrite}

-- numbers and truths that are the cut of a program's point: its first columns are the variables, the next the Booleans
pub record IsCutOf (m : ModelTree) (x p : PointValue) (truths : List Bool) : Type 0 where
  pub over : p.over ≡ x.over
  pub count : length p.nums ≡ length m.vars
  pub nums : (j : ℕ) → j < length m.vars → at p.nums j ≡ at x.nums j
  pub flags : length truths ≡ length m.booleans
  pub are_truths : (k : ℕ) → k < length m.booleans → slice_index_or truths k false ≡ int_lt (pos 0) (at x.nums (length m.vars + k))

-- numbers that are the cut of a program's ray
pub record IsRayCutOf (m : ModelTree) (ray cut : List ℤ) : Type 0 where
  pub count : length cut ≡ length m.vars
  pub nums : (j : ℕ) → j < length m.vars → at cut j ≡ at ray j

-- the first n of these numbers, 0 past their end
abbrev pub numbers_of : List ℤ → ℕ → List ℤ
numbers_of xs zero = []
numbers_of xs (suc n) = numbers_of xs n ++ at xs n ∷ []

-- whether each of the next n numbers after the first ones is positive
abbrev pub truths_of : List ℤ → ℕ → ℕ → List Bool
truths_of xs first zero = []
truths_of xs first (suc n) = truths_of xs first n ++ int_lt (pos 0) (at xs (first + n)) ∷ []
