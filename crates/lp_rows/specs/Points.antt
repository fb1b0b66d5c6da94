-- Points: whole numerators over one denominator.
use Rattle.std.specs.Prelude.{ℤ, pos, List, Result, Option, None, int_lt}
use Rattle.outcomes.specs.Calls.{refuse_if, refused_or}
use Rattle.lp_rows.specs.declared.points.PointError.{PointError}
use Rattle.lp_rows.specs.declared.points.PointError.TheVariants.{Over}

-- a point: its denominator and its numerators
pub record PointValue : Type 0 where
  pub over : ℤ
  pub nums : List ℤ

-- why a denominator makes no point
abbrev pub point_refusal : ℤ → Option PointError
point_refusal over = refuse_if (int_lt over (pos 1)) Over None

-- what `Point::make` answers if memory suffices
abbrev pub point_made : ℤ → List ℤ → Result PointValue PointError
point_made over nums = refused_or (point_refusal over) (record { over = over; nums = nums })
