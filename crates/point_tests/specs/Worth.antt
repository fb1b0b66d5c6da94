-- The value of a goal at a point and, apart from it, whether the numbers on the way fit 128 bits.
use Rattle.std.specs.Prelude.{ℤ, pos, ◌+ℤ◌, ◌*ℤ◌, Bool, ◌&&◌}
use Rattle.fractions.specs.Fraction.{Fraction, IsReduced}
use Rattle.fractions.specs.Width.{fits, step_fits}
use Rattle.int_linear.specs.Sums.{at}
use Rattle.int_linear.specs.Terms.{dot}
use Rattle.lp_rows.specs.Holding.{sum_fits}
use Rattle.lp_rows.specs.Points.{PointValue}
use Rattle.model_tree.specs.Values.{GoalValue}

-- the sum of a goal's terms at the numerators, and its constant times the denominator
abbrev pub whole_value : GoalValue → PointValue → ℤ
whole_value g p = dot g.terms (at p.nums) +ℤ g.constant *ℤ p.over

-- f is the value of the goal at the point in lowest terms: that sum over the scale times the denominator
abbrev pub IsValueOf : GoalValue → PointValue → Fraction → Type 0
IsValueOf g p f = IsReduced (whole_value g p) (g.scale *ℤ p.over) f

-- No number on the way is wide: the products of the terms and their partial sums in order, then the constant times the
-- denominator and its sum with them, and the scale times the denominator.
abbrev pub value_fits : GoalValue → PointValue → Bool
value_fits g p =
    sum_fits (pos 0) g.terms (at p.nums) && step_fits (dot g.terms (at p.nums)) g.constant p.over && fits (g.scale *ℤ p.over)
