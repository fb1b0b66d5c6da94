-- The names that were opened, after one more.
use Rattle.std.proofs.Common.{ℕ, List, [], ◌∷◌, lit≤}
use Rattle.gdp_io.specs.Shelf.{Openings, OpensNone, OpensOne, OpensFirst}

-- one name that was opened is the first of a list of one
pub one_is_first : (was_opened between is_opened : Openings) (name : List ℕ) →
    OpensOne was_opened between name → OpensNone between is_opened → OpensFirst was_opened is_opened (name ∷ [])
one_is_first was_opened between is_opened name one none names told = (1, lit≤ tt, none _ (one names told))
