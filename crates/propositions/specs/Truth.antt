-- When a proposition is true.
use Rattle.std.specs.Prelude.{ℕ, Bool, true, not, ◌&&◌, ◌||◌, List, [], ◌∷◌, nat_eq, nat_le, nat_lt}
use Rattle.std.specs.List.{list_all, list_any, count_by}
use Rattle.gdp_tables.specs.Completions.{are_same}
use Rattle.propositions.specs.Tree.{PairConnective, implies, equivalent, xor, ListConnective, all_of, some_of, exactly, at_least, at_most, PropTree, atom, negated, paired, listed, PropTrees, no_props, prop}

-- all are true
abbrev pub are_all_true : List Bool → Bool
are_all_true bs = list_all (λ b. b) bs

-- some is true
abbrev pub is_some_true : List Bool → Bool
is_some_true bs = list_any (λ b. b) bs

-- how many are true
abbrev pub true_count : List Bool → ℕ
true_count bs = count_by (λ b. b) bs

-- the truth of a connective of two, by the truth of both
abbrev pub pair_truth : PairConnective → Bool → Bool → Bool
pair_truth implies a b = not a || b
pair_truth equivalent a b = are_same a b
pair_truth xor a b = not (are_same a b)

-- the truth of a connective of a list, by the truth of each; a counting one compares how many are true with its number
abbrev pub list_truth : ListConnective → List Bool → Bool
list_truth all_of bs = are_all_true bs
list_truth some_of bs = is_some_true bs
list_truth (exactly n) bs = nat_eq (true_count bs) n
list_truth (at_least n) bs = nat_le n (true_count bs)
list_truth (at_most n) bs = nat_le (true_count bs) n

-- the truth of a proposition where the Booleans have these truth values
abbrev mutual
  pub truth_of : PropTree → (ℕ → Bool) → Bool
  truth_of (atom k) truths = truths k
  truth_of (negated p) truths = not (truth_of p truths)
  truth_of (paired c p q) truths = pair_truth c (truth_of p truths) (truth_of q truths)
  truth_of (listed c ps) truths = list_truth c (truths_of ps truths)

  -- the truth of each argument
  pub truths_of : PropTrees → (ℕ → Bool) → List Bool
  truths_of no_props truths = []
  truths_of (prop p ps) truths = truth_of p truths ∷ truths_of ps truths

-- every Boolean that a proposition names has a number below n
abbrev mutual
  pub are_ids_below : ℕ → PropTree → Bool
  are_ids_below n (atom k) = nat_lt k n
  are_ids_below n (negated p) = are_ids_below n p
  are_ids_below n (paired c p q) = are_ids_below n p && are_ids_below n q
  are_ids_below n (listed c ps) = are_all_ids_below n ps

  pub are_all_ids_below : ℕ → PropTrees → Bool
  are_all_ids_below n no_props = true
  are_all_ids_below n (prop p ps) = are_ids_below n p && are_all_ids_below n ps
