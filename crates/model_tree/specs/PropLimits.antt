-- The limits that each proposition of a model keeps.
use Rattle.std.specs.Prelude.{ℕ, Bool, not, ◌&&◌, nat_le}
use Rattle.propositions.specs.Sizes.{depth_of, most_arguments_of, greatest_number_of, has_empty_list_of}
use Rattle.propositions.specs.Tree.{PropTree}
use Rattle.propositions.specs.Truth.{are_ids_below}
use Rattle.model_tree.specs.Limits.{deepest_proposition, most_arguments, greatest_number}

-- the numbers of counting connectives are at most 1,000
abbrev pub has_small_numbers : PropTree → Bool
has_small_numbers p = nat_le (greatest_number_of p) greatest_number

-- the depth is at most 16
abbrev pub is_shallow_prop : PropTree → Bool
is_shallow_prop p = nat_le (depth_of p) deepest_proposition

-- each connective has arguments, at most 200
abbrev pub has_fair_lists : PropTree → Bool
has_fair_lists p = nat_le (most_arguments_of p) most_arguments && not (has_empty_list_of p)

-- a proposition names only the first m Booleans and keeps the limits
abbrev pub is_prop_sound : ℕ → PropTree → Bool
is_prop_sound m p = are_ids_below m p && (has_small_numbers p && (is_shallow_prop p && has_fair_lists p))
