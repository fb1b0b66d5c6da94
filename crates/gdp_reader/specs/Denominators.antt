-- The denominator of a point.
use Rattle.std.specs.Prelude.{ℤ, pos, Bool, true, Option, None, Some, int_lt}

-- the denominator, where there is one, is at least 1
abbrev pub is_denominator : Option ℤ → Bool
is_denominator None = true
is_denominator (Some over) = int_lt (pos 0) over
