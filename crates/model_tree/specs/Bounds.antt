-- Which bounds a variable may have.
use Rattle.std.specs.Prelude.{Bool, true, false, not, ◌&&◌, ◌*ℤ◌, List, Option, None, Some, int_lt}
use Rattle.std.specs.List.{list_all}
use Rattle.std.specs.Option.{ForSome}
use Rattle.fractions.specs.Fraction.{Fraction, IsLowest}
use Rattle.lp_rows.specs.Rows.{is_storable}
use Rattle.model_tree.specs.declared.bounds.Bound.{Bound}
use Rattle.model_tree.specs.Variables.{VarValue}

-- both parts of the fraction may be stored
abbrev pub has_small_parts : Fraction → Bool
has_small_parts f = is_storable f.num && is_storable f.den

-- both parts of an end, where there is one, may be stored
abbrev pub is_end_small : Option Fraction → Bool
is_end_small None = true
is_end_small (Some f) = has_small_parts f

-- the low end exceeds the high one
abbrev pub are_crossed : Option Fraction → Option Fraction → Bool
are_crossed None high = false
are_crossed (Some low) None = false
are_crossed (Some low) (Some high) = int_lt (high.num *ℤ low.den) (low.num *ℤ high.den)

-- a variable may have these bounds
abbrev pub is_bound : Bound → Bool
is_bound bound = is_end_small bound.low && is_end_small bound.high && not (are_crossed bound.low bound.high)

-- an end, where there is one, is in lowest terms
abbrev pub IsEndLowest : Option Fraction → Type 0
IsEndLowest end = ForSome end IsLowest

-- both ends of the bounds are in lowest terms
abbrev pub AreEndsLowest : Bound → Type 0
AreEndsLowest bound = IsEndLowest bound.low × IsEndLowest bound.high

-- each variable may have its bounds
abbrev pub are_bounds : List VarValue → Bool
are_bounds vars = list_all (λ v. is_bound v.2) vars
