-- How large a proposition is.
use Rattle.std.specs.Prelude.{ℕ, ◌+◌, suc, max, Bool, true, false, ◌||◌}
use Rattle.propositions.specs.Tree.{ListConnective, all_of, some_of, exactly, at_least, at_most, PropTree, atom, negated, paired, listed, PropTrees, no_props, prop}

-- the depth: 1 of an atom, and else one more than that of the deepest argument
abbrev mutual
  pub depth_of : PropTree → ℕ
  depth_of (atom k) = 1
  depth_of (negated p) = 1 + depth_of p
  depth_of (paired c p q) = 1 + max (depth_of p) (depth_of q)
  depth_of (listed c ps) = 1 + depth_within ps

  pub depth_within : PropTrees → ℕ
  depth_within no_props = 0
  depth_within (prop p ps) = max (depth_of p) (depth_within ps)

-- how many nodes there are: atoms and connectives
abbrev mutual
  pub node_count_of : PropTree → ℕ
  node_count_of (atom k) = 1
  node_count_of (negated p) = 1 + node_count_of p
  node_count_of (paired c p q) = 1 + (node_count_of p + node_count_of q)
  node_count_of (listed c ps) = 1 + node_count_within ps

  pub node_count_within : PropTrees → ℕ
  node_count_within no_props = 0
  node_count_within (prop p ps) = node_count_of p + node_count_within ps

-- how many arguments there are
abbrev pub prop_count : PropTrees → ℕ
prop_count no_props = 0
prop_count (prop p ps) = suc (prop_count ps)

-- the most arguments that one connective has
abbrev mutual
  pub most_arguments_of : PropTree → ℕ
  most_arguments_of (atom k) = 0
  most_arguments_of (negated p) = max 1 (most_arguments_of p)
  most_arguments_of (paired c p q) = max 2 (max (most_arguments_of p) (most_arguments_of q))
  most_arguments_of (listed c ps) = max (prop_count ps) (most_arguments_within ps)

  pub most_arguments_within : PropTrees → ℕ
  most_arguments_within no_props = 0
  most_arguments_within (prop p ps) = max (most_arguments_of p) (most_arguments_within ps)

-- the number of a counting connective, 0 of another
abbrev pub number_of : ListConnective → ℕ
number_of all_of = 0
number_of some_of = 0
number_of (exactly n) = n
number_of (at_least n) = n
number_of (at_most n) = n

-- the greatest number of a counting connective, 0 where there is none
abbrev mutual
  pub greatest_number_of : PropTree → ℕ
  greatest_number_of (atom k) = 0
  greatest_number_of (negated p) = greatest_number_of p
  greatest_number_of (paired c p q) = max (greatest_number_of p) (greatest_number_of q)
  greatest_number_of (listed c ps) = max (number_of c) (greatest_number_within ps)

  pub greatest_number_within : PropTrees → ℕ
  greatest_number_within no_props = 0
  greatest_number_within (prop p ps) = max (greatest_number_of p) (greatest_number_within ps)

-- there are no arguments
abbrev pub is_empty : PropTrees → Bool
is_empty no_props = true
is_empty (prop p ps) = false

-- some connective has a list without arguments
abbrev mutual
  pub has_empty_list_of : PropTree → Bool
  has_empty_list_of (atom k) = false
  has_empty_list_of (negated p) = has_empty_list_of p
  has_empty_list_of (paired c p q) = has_empty_list_of p || has_empty_list_of q
  has_empty_list_of (listed c ps) = is_empty ps || has_empty_list_within ps

  pub has_empty_list_within : PropTrees → Bool
  has_empty_list_within no_props = false
  has_empty_list_within (prop p ps) = has_empty_list_of p || has_empty_list_within ps
