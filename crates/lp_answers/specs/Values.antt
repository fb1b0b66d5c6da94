-- The value of a file's objective at a point and, apart from it, whether the numbers on the way fit 128 bits.
use Rattle.std.specs.Prelude.{pos, ◌+ℤ◌, ◌*ℤ◌, Bool, ◌&&◌}
use Rattle.fractions.specs.Fraction.{Fraction, IsReduced}
use Rattle.fractions.specs.Width.{fits, step_fits}
use Rattle.int_linear.specs.Sums.{at}
use Rattle.int_linear.specs.Terms.{dot}
use Rattle.lp_rows.specs.Holding.{sum_fits}
use Rattle.lp_rows.specs.Points.{PointValue}
use Rattle.lp_grammar.specs.Reading.{LpValue}

-- f is the value in lowest terms: the sum of the objective's terms and its constant, over its scale
abbrev pub IsLpValue : LpValue → PointValue → Fraction → Type 0
IsLpValue p x f = IsReduced (dot p.milp.goal (at x.nums) +ℤ p.constant *ℤ x.over) (pos p.scale *ℤ x.over) f

-- No number on the way is wide: the products of the terms and their partial sums in order, then the constant times the
-- denominator and its sum with them, and the scale times the denominator.
abbrev pub lp_value_fits : LpValue → PointValue → Bool
lp_value_fits p x = sum_fits (pos 0) p.milp.goal (at x.nums) && step_fits (dot p.milp.goal (at x.nums)) p.constant x.over && fits (pos p.scale *ℤ x.over)
