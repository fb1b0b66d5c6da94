-- The tree of a proposition is as large as the proposition, and names the Booleans that there are.
use Rattle.std.proofs.Common.{◌≡◌, ℕ, suc, ◌+◌, Bool, true, false, not, ◌&&◌, ◌||◌, nat_lt, ◌==◌, cond, List, length, map, None, Some, refl, ap, sym, ◌∙◌, arith}
use Rattle.std.specs.Prelude.{max, is_some, unwrap_or, bytes_eq}
use Rattle.std.specs.List.{prefix_len}
use Rattle.std.proofs.lemmas.Bool.Decides.{nat_tests}
use Rattle.std.proofs.lemmas.List.{length-map}
use Rattle.propositions.specs.Sizes.{depth_of, depth_within, node_count_of, node_count_within, prop_count, most_arguments_of, most_arguments_within, number_of, greatest_number_of, greatest_number_within, has_empty_list_of, has_empty_list_within}
use Rattle.propositions.specs.Tree.{PairConnective, ListConnective, all_of, some_of, PropTree, negated, paired, listed, PropTrees, no_props, prop}
use Rattle.propositions.specs.Truth.{are_ids_below, are_all_ids_below}
use Rattle.model_tree.specs.Variables.{BooleanValue}
use Rattle.text_grammar.specs.Digits.{value_after}
use Rattle.gdp_grammar.specs.PropNames.{boolean_number, are_known, are_all_known, counting_connective, combined, tree_in, trees_in}
use Rattle.gdp_grammar.specs.PropSizes.{named_depth, named_depth_within, named_nodes, named_nodes_within, named_most, named_most_within, number_in, named_greatest, named_greatest_within}
use Rattle.gdp_grammar.specs.PropTexts.{Counting, exactly, at_least, at_most, Operator, negation, pair, all, some, counted, NamedProp, named, applied, NamedProps, no_arguments, argument, argument_count, takes, is_formed, are_formed}
use Rattle.text_grammar.proofs.Bools.{both, and_true}

-- arguments that are not one, and not two
pub more_than_one : (n : ℕ) → (suc (suc n) == 1) ≡ false
more_than_one n = grind (arith, nat_tests)

pub more_than_two : (n : ℕ) → (suc (suc (suc n)) == 2) ≡ false
more_than_two n = grind (arith, nat_tests)

-- What an operator makes of as many trees as it takes: `not` of one, an operator of two of two, and any other of a list
-- that is not empty.
pub by_shape : (P : Operator → PropTrees → PropTree → Type 0) → ((p : PropTree) → P negation (prop p no_props) (negated p)) → ((c : PairConnective) (p q : PropTree) → P (pair c) (prop p (prop q no_props)) (paired c p q))
    → ((o : Operator) (c : ListConnective) (p : PropTree) (ps : PropTrees) → number_of c ≡ number_in o → P o (prop p ps) (listed c (prop p ps)))
    → (o : Operator) (ts : PropTrees) → takes o (prop_count ts) ≡ true → P o ts (combined o ts)
by_shape P one two more negation no_props e = absurd (cc e)
by_shape P one two more negation (prop p no_props) e = one p
by_shape P one two more negation (prop p (prop q qs)) e = absurd (cc (more_than_one (prop_count qs), e))
by_shape P one two more (pair c) no_props e = absurd (cc e)
by_shape P one two more (pair c) (prop p no_props) e = absurd (cc e)
by_shape P one two more (pair c) (prop p (prop q no_props)) e = two c p q
by_shape P one two more (pair c) (prop p (prop q (prop r rs))) e = absurd (cc (more_than_two (prop_count rs), e))
by_shape P one two more all no_props e = absurd (cc e)
by_shape P one two more all (prop p ps) e = more all all_of p ps refl
by_shape P one two more some no_props e = absurd (cc e)
by_shape P one two more some (prop p ps) e = more some some_of p ps refl
by_shape P one two more (counted c digits) no_props e = absurd (cc e)
by_shape P one two more (counted c digits) (prop p ps) e = more (counted c digits) (counting_connective c (value_after 0 digits)) p ps (number_is c (value_after 0 digits))
  where
    number_is : (c : Counting) (n : ℕ) → number_of (counting_connective c n) ≡ n
    number_is exactly n = refl
    number_is at_least n = refl
    number_is at_most n = refl

pub trees_count : (bs : List BooleanValue) (ps : NamedProps) → prop_count (trees_in bs ps) ≡ argument_count ps
trees_count bs no_arguments = refl
trees_count bs (argument p ps) = ap (λ n. suc n) (trees_count bs ps)

-- as many trees as arguments
pub as_many : (bs : List BooleanValue) (o : Operator) (ps : NamedProps) → takes o (argument_count ps) ≡ true → takes o (prop_count (trees_in bs ps)) ≡ true
as_many bs o ps e = ap (takes o) (trees_count bs ps) ∙ e

pub or_none : (a : Bool) → a ≡ (a || false)
or_none true = refl
or_none false = refl

pub and_all : (a : Bool) → a ≡ (a && true)
and_all true = refl
and_all false = refl

-- the sizes of what an operator makes
pub depth_combined : (o : Operator) (ts : PropTrees) → takes o (prop_count ts) ≡ true → depth_of (combined o ts) ≡ 1 + depth_within ts
depth_combined = by_shape (λ o ts t. depth_of t ≡ 1 + depth_within ts) (λ p. omega arith) (λ c p q. omega arith) (λ o c p ps e. refl)

pub nodes_combined : (o : Operator) (ts : PropTrees) → takes o (prop_count ts) ≡ true → node_count_of (combined o ts) ≡ 1 + node_count_within ts
nodes_combined = by_shape (λ o ts t. node_count_of t ≡ 1 + node_count_within ts) (λ p. omega arith) (λ c p q. omega arith) (λ o c p ps e. refl)

pub most_combined : (o : Operator) (ts : PropTrees) → takes o (prop_count ts) ≡ true → most_arguments_of (combined o ts) ≡ max (prop_count ts) (most_arguments_within ts)
most_combined = by_shape (λ o ts t. most_arguments_of t ≡ max (prop_count ts) (most_arguments_within ts)) (λ p. omega arith) (λ c p q. omega arith) (λ o c p ps e. refl)

pub greatest_combined : (o : Operator) (ts : PropTrees) → takes o (prop_count ts) ≡ true → greatest_number_of (combined o ts) ≡ max (number_in o) (greatest_number_within ts)
greatest_combined = by_shape (λ o ts t. greatest_number_of t ≡ max (number_in o) (greatest_number_within ts)) (λ p. omega arith) (λ c p q. omega arith) (λ o c p ps e. ap (λ n. max n (greatest_number_within (prop p ps))) e)

pub empty_combined : (o : Operator) (ts : PropTrees) → takes o (prop_count ts) ≡ true → has_empty_list_of (combined o ts) ≡ has_empty_list_within ts
empty_combined = by_shape (λ o ts t. has_empty_list_of t ≡ has_empty_list_within ts) (λ p. or_none (has_empty_list_of p)) (λ c p q. ap (λ b. has_empty_list_of p || b) (or_none (has_empty_list_of q))) (λ o c p ps e. refl)

pub below_combined : (n : ℕ) (o : Operator) (ts : PropTrees) → takes o (prop_count ts) ≡ true → are_ids_below n (combined o ts) ≡ are_all_ids_below n ts
below_combined n = by_shape (λ o ts t. are_ids_below n t ≡ are_all_ids_below n ts) (λ p. and_all (are_ids_below n p)) (λ c p q. ap (λ b. are_ids_below n p && b) (and_all (are_ids_below n q))) (λ o c p ps e. refl)

-- the tree is as deep
mutual
  pub depth_same : (bs : List BooleanValue) (p : NamedProp) → is_formed p ≡ true → depth_of (tree_in bs p) ≡ named_depth p
  depth_same bs (named name) e = refl
  depth_same bs (applied o ps) e =
      let h = both (takes o (argument_count ps)) (are_formed ps) e in depth_combined o (trees_in bs ps) (as_many bs o ps h.0) ∙ ap (λ n. 1 + n) (depths_same bs ps h.1)

  pub depths_same : (bs : List BooleanValue) (ps : NamedProps) → are_formed ps ≡ true → depth_within (trees_in bs ps) ≡ named_depth_within ps
  depths_same bs no_arguments e = refl
  depths_same bs (argument p ps) e =
      let h = both (is_formed p) (are_formed ps) e in ap (λ n. max n (depth_within (trees_in bs ps))) (depth_same bs p h.0) ∙ ap (λ n. max (named_depth p) n) (depths_same bs ps h.1)

-- it has as many nodes
mutual
  pub nodes_same : (bs : List BooleanValue) (p : NamedProp) → is_formed p ≡ true → node_count_of (tree_in bs p) ≡ named_nodes p
  nodes_same bs (named name) e = refl
  nodes_same bs (applied o ps) e =
      let h = both (takes o (argument_count ps)) (are_formed ps) e in nodes_combined o (trees_in bs ps) (as_many bs o ps h.0) ∙ ap (λ n. 1 + n) (all_nodes_same bs ps h.1)

  pub all_nodes_same : (bs : List BooleanValue) (ps : NamedProps) → are_formed ps ≡ true → node_count_within (trees_in bs ps) ≡ named_nodes_within ps
  all_nodes_same bs no_arguments e = refl
  all_nodes_same bs (argument p ps) e =
      let h = both (is_formed p) (are_formed ps) e in ap (λ n. n + node_count_within (trees_in bs ps)) (nodes_same bs p h.0) ∙ ap (λ n. named_nodes p + n) (all_nodes_same bs ps h.1)

-- its connectives have as many arguments
mutual
  pub most_same : (bs : List BooleanValue) (p : NamedProp) → is_formed p ≡ true → most_arguments_of (tree_in bs p) ≡ named_most p
  most_same bs (named name) e = refl
  most_same bs (applied o ps) e =
      let h = both (takes o (argument_count ps)) (are_formed ps) e in
      most_combined o (trees_in bs ps) (as_many bs o ps h.0) ∙ ap (λ n. max n (most_arguments_within (trees_in bs ps))) (trees_count bs ps) ∙ ap (λ n. max (argument_count ps) n) (all_most_same bs ps h.1)

  pub all_most_same : (bs : List BooleanValue) (ps : NamedProps) → are_formed ps ≡ true → most_arguments_within (trees_in bs ps) ≡ named_most_within ps
  all_most_same bs no_arguments e = refl
  all_most_same bs (argument p ps) e =
      let h = both (is_formed p) (are_formed ps) e in ap (λ n. max n (most_arguments_within (trees_in bs ps))) (most_same bs p h.0) ∙ ap (λ n. max (named_most p) n) (all_most_same bs ps h.1)

-- its numbers are as great
mutual
  pub greatest_same : (bs : List BooleanValue) (p : NamedProp) → is_formed p ≡ true → greatest_number_of (tree_in bs p) ≡ named_greatest p
  greatest_same bs (named name) e = refl
  greatest_same bs (applied o ps) e =
      let h = both (takes o (argument_count ps)) (are_formed ps) e in greatest_combined o (trees_in bs ps) (as_many bs o ps h.0) ∙ ap (λ n. max (number_in o) n) (all_greatest_same bs ps h.1)

  pub all_greatest_same : (bs : List BooleanValue) (ps : NamedProps) → are_formed ps ≡ true → greatest_number_within (trees_in bs ps) ≡ named_greatest_within ps
  all_greatest_same bs no_arguments e = refl
  all_greatest_same bs (argument p ps) e =
      let h = both (is_formed p) (are_formed ps) e in ap (λ n. max n (greatest_number_within (trees_in bs ps))) (greatest_same bs p h.0) ∙ ap (λ n. max (named_greatest p) n) (all_greatest_same bs ps h.1)

-- none of its lists is empty
mutual
  pub none_empty : (bs : List BooleanValue) (p : NamedProp) → is_formed p ≡ true → has_empty_list_of (tree_in bs p) ≡ false
  none_empty bs (named name) e = refl
  none_empty bs (applied o ps) e =
      let h = both (takes o (argument_count ps)) (are_formed ps) e in empty_combined o (trees_in bs ps) (as_many bs o ps h.0) ∙ none_empty_within bs ps h.1

  pub none_empty_within : (bs : List BooleanValue) (ps : NamedProps) → are_formed ps ≡ true → has_empty_list_within (trees_in bs ps) ≡ false
  none_empty_within bs no_arguments e = refl
  none_empty_within bs (argument p ps) e =
      let h = both (is_formed p) (are_formed ps) e in ap (λ b. b || has_empty_list_within (trees_in bs ps)) (none_empty bs p h.0) ∙ none_empty_within bs ps h.1

-- a place that is found is one of the list
pub place_below : (k n : ℕ) → is_some (cond (nat_lt k n) (Some k) None) ≡ true → nat_lt (unwrap_or (cond (nat_lt k n) (Some k) None) 0) n ≡ true
place_below k n e = go (nat_lt k n) refl e
  where
    go : (b : Bool) → nat_lt k n ≡ b → is_some (cond b (Some k) None) ≡ true → nat_lt (unwrap_or (cond b (Some k) None) 0) n ≡ true
    go true q e = q
    go false q e = absurd (cc e)

pub number_below : (bs : List BooleanValue) (name : List ℕ) → is_some (boolean_number bs name) ≡ true → nat_lt (unwrap_or (boolean_number bs name) 0) (length bs) ≡ true
number_below bs name e =
    let names : List (List ℕ) = map (λ (b : BooleanValue). b.0) bs in
    ap (λ n. nat_lt (unwrap_or (boolean_number bs name) 0) n) (sym (length-map bs (λ (b : BooleanValue). b.0))) ∙ place_below (prefix_len (λ x. not (bytes_eq name x)) names) (length names) e

-- it names Booleans that there are
mutual
  pub ids_known : (bs : List BooleanValue) (p : NamedProp) → is_formed p ≡ true → are_known bs p ≡ true → are_ids_below (length bs) (tree_in bs p) ≡ true
  ids_known bs (named name) e k = number_below bs name k
  ids_known bs (applied o ps) e k =
      let h = both (takes o (argument_count ps)) (are_formed ps) e in below_combined (length bs) o (trees_in bs ps) (as_many bs o ps h.0) ∙ all_ids_known bs ps h.1 k

  pub all_ids_known : (bs : List BooleanValue) (ps : NamedProps) → are_formed ps ≡ true → are_all_known bs ps ≡ true → are_all_ids_below (length bs) (trees_in bs ps) ≡ true
  all_ids_known bs no_arguments e k = refl
  all_ids_known bs (argument p ps) e k =
      let h = both (is_formed p) (are_formed ps) e in
      let l = both (are_known bs p) (are_all_known bs ps) k in
      and_true (are_ids_below (length bs) (tree_in bs p)) (are_all_ids_below (length bs) (trees_in bs ps)) (ids_known bs p h.0 l.0) (all_ids_known bs ps h.1 l.1)
