-- The variables that occur: each that does, once, in ascending order.
use Rattle.std.specs.Prelude.{◌≡◌, ◌<◌, ℕ, Bool, false, ◌&&◌, ◌||◌, nat_eq, nat_lt, List, [], ◌∷◌}
use Rattle.block_tree.specs.Occurs.{occurs_within}
use Rattle.block_tree.specs.Tree.{Disjuncts}
use Rattle.hull_rewrite.specs.Copies.{occurring}

-- j stands in the list
abbrev pub stands_in : ℕ → List ℕ → Bool
stands_in j [] = false
stands_in j (v ∷ vs) = nat_eq j v || stands_in j vs

-- no number stands twice
abbrev pub Distinct : List ℕ → Type 0
Distinct [] = Unit {0}
Distinct (v ∷ vs) = (stands_in v vs ≡ false) × Distinct vs

-- each number is less than those after it
abbrev pub AreAbove : ℕ → List ℕ → Type 0
AreAbove n [] = Unit {0}
AreAbove n (v ∷ vs) = (n < v) × AreAbove n vs

abbrev pub Ascends : List ℕ → Type 0
Ascends [] = Unit {0}
Ascends (v ∷ vs) = AreAbove v vs × Ascends vs

-- those of the first n variables that occur stand in the list
abbrev pub OccurringAreListed : Type 0
OccurringAreListed = (n j : ℕ) (js : Disjuncts) → stands_in j (occurring n js) ≡ (nat_lt j n && occurs_within j js)

abbrev pub OccurringAscends : Type 0
OccurringAscends = (n : ℕ) (js : Disjuncts) → Ascends (occurring n js)

abbrev pub OccurringIsDistinct : Type 0
OccurringIsDistinct = (n : ℕ) (js : Disjuncts) → Distinct (occurring n js)
