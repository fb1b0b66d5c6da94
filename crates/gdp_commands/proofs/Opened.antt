-- The names that two calls open, one after the other.
use Rattle.std.proofs.Common.{◌≡◌, ℕ, ◌+◌, List, [], ◌∷◌, ◌++◌, take, append_assoc, add-one, arith, lit≤, sym, subst}
use Rattle.std.proofs.lemmas.List.{take-append-le}
use Rattle.gdp_io.specs.Shelf.{Openings, OpensOne, OpensFirst}

-- one name that was opened is the first of a list of one
pub one_opened : (was_opened is_opened : Openings) (one : List ℕ) → OpensOne was_opened is_opened one → OpensFirst was_opened is_opened (one ∷ [])
one_opened was_opened is_opened one opened names revealed = (1, lit≤ tt, opened names revealed)

-- what opened the first of one name opened the first of two
pub first_of_two : (was_opened is_opened : Openings) (one two : List ℕ) → OpensFirst was_opened is_opened (one ∷ []) → OpensFirst was_opened is_opened (one ∷ two ∷ [])
first_of_two was_opened is_opened one two first names revealed =
    let given = first names revealed in
    let same : take given.0 (one ∷ two ∷ []) ≡ take given.0 (one ∷ []) = take-append-le given.0 (one ∷ []) (two ∷ []) given.1 in
    (given.0, omega (arith, given.1), subst (λ (front : List (List ℕ)). is_opened (names ++ front)) (sym same) given.2)

-- one name and then the first of another are the first of both
pub both_in_order : (was_opened between is_opened : Openings) (one two : List ℕ) → OpensOne was_opened between one → OpensFirst between is_opened (two ∷ []) →
    OpensFirst was_opened is_opened (one ∷ two ∷ [])
both_in_order was_opened between is_opened one two opened first names revealed =
    let given = first (names ++ one ∷ []) (opened names revealed) in
    let same : names ++ one ∷ [] ++ take given.0 (two ∷ []) ≡ names ++ take (given.0 + 1) (one ∷ two ∷ []) =
    rw add-one (append_assoc names (one ∷ []) (take given.0 (two ∷ []))) in
    (given.0 + 1, omega (arith, given.1), subst is_opened same given.2)

-- one name and then another are both
pub both_opened : (was_opened between is_opened : Openings) (one two : List ℕ) → OpensOne was_opened between one → OpensOne between is_opened two →
    OpensFirst was_opened is_opened (one ∷ two ∷ [])
both_opened was_opened between is_opened one two first second =
    both_in_order was_opened between is_opened one two first (one_opened between is_opened two second)
