-- What is known of a proposition's truth where some Booleans are open.
use Rattle.std.specs.Prelude.{ℕ, ◌+◌, Bool, true, false, List, [], ◌∷◌, nat_le, nat_lt, if◌then◌else◌}
use Rattle.std.specs.List.{count_by}
use Rattle.gdp_tables.specs.declared.tri.Tri.{Tri}
use Rattle.gdp_tables.specs.declared.tri.Tri.TheVariants.{No, Yes, Open}
use Rattle.gdp_tables.specs.Readings.{not_of, and_of, or_of, same_of}
use Rattle.propositions.specs.Tree.{PairConnective, implies, equivalent, xor, ListConnective, all_of, some_of, exactly, at_least, at_most, PropTree, atom, negated, paired, listed, PropTrees, no_props, prop}

-- `and` of several
abbrev pub and_all : List Tri → Tri
and_all [] = Yes
and_all (t ∷ ts) = and_of t (and_all ts)

-- `or` of several
abbrev pub or_all : List Tri → Tri
or_all [] = No
or_all (t ∷ ts) = or_of t (or_all ts)

-- it is known to be true
abbrev pub is_yes : Tri → Bool
is_yes No = false
is_yes Yes = true
is_yes Open = false

-- nothing is known
abbrev pub is_open : Tri → Bool
is_open No = false
is_open Yes = false
is_open Open = true

-- how many are yes
abbrev pub yes_count : List Tri → ℕ
yes_count ts = count_by is_yes ts

-- how many are open
abbrev pub open_count : List Tri → ℕ
open_count ts = count_by is_open ts

-- whether at least n are true, where that many are yes and that many undecided
abbrev pub at_least_of : ℕ → ℕ → ℕ → Tri
at_least_of n sure undecided = if nat_le n sure then Yes else (if nat_lt (sure + undecided) n then No else Open)

-- whether at most n are true: not at least one more
abbrev pub at_most_of : ℕ → ℕ → ℕ → Tri
at_most_of n sure undecided = not_of (at_least_of (n + 1) sure undecided)

-- whether exactly n are true: at least and at most n
abbrev pub exactly_of : ℕ → ℕ → ℕ → Tri
exactly_of n sure undecided = and_of (at_least_of n sure undecided) (at_most_of n sure undecided)

-- the reading of a connective of two, by the readings of both
abbrev pub pair_tri : PairConnective → Tri → Tri → Tri
pair_tri implies a b = or_of (not_of a) b
pair_tri equivalent a b = same_of a b
pair_tri xor a b = not_of (same_of a b)

-- the reading of a connective of a list, by the reading of each
abbrev pub list_tri : ListConnective → List Tri → Tri
list_tri all_of ts = and_all ts
list_tri some_of ts = or_all ts
list_tri (exactly n) ts = exactly_of n (yes_count ts) (open_count ts)
list_tri (at_least n) ts = at_least_of n (yes_count ts) (open_count ts)
list_tri (at_most n) ts = at_most_of n (yes_count ts) (open_count ts)

-- the three-valued reading of a proposition where this is known of the Booleans
abbrev mutual
  pub tri_of : PropTree → (ℕ → Tri) → Tri
  tri_of (atom k) truths = truths k
  tri_of (negated p) truths = not_of (tri_of p truths)
  tri_of (paired c p q) truths = pair_tri c (tri_of p truths) (tri_of q truths)
  tri_of (listed c ps) truths = list_tri c (tris_of ps truths)

  -- the reading of each argument
  pub tris_of : PropTrees → (ℕ → Tri) → List Tri
  tris_of no_props truths = []
  tris_of (prop p ps) truths = tri_of p truths ∷ tris_of ps truths
