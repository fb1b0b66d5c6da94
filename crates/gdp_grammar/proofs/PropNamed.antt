-- A tree with the names of its Booleans is read as the tree.
use Rattle.std.proofs.Common.{◌≡◌, ℕ, suc, ◌^◌, ◌<◌, true, false, not, ◌&&◌, nat_lt, nat_le, List, [], length, map, take, Option, Some, refl, ap, sym, ◌∙◌, arith}
use Rattle.std.specs.Prelude.{max, is_some, unwrap_or, slice_index_or}
use Rattle.std.proofs.lemmas.Bool.Decides.{nat_tests}
use Rattle.std.proofs.lemmas.List.{get_or-take, length-map}
use Rattle.propositions.specs.Sizes.{number_of, greatest_number_of, greatest_number_within, is_empty, has_empty_list_of, has_empty_list_within}
use Rattle.propositions.specs.Tree.{ListConnective, all_of, some_of, exactly, at_least, at_most, PropTree, atom, negated, paired, listed, PropTrees, no_props, prop}
use Rattle.propositions.specs.Truth.{are_ids_below, are_all_ids_below}
use Rattle.model_tree.specs.Names.{is_name, has_name, has_name_shape, reserved_words, are_names}
use Rattle.model_tree.specs.Variables.{BooleanValue}
use Rattle.gdp_grammar.specs.Keywords.{is_reserved}
use Rattle.gdp_grammar.specs.PropNames.{boolean_number, are_known, are_all_known, combined, tree_in, trees_in, list_operator, named_in, all_named_in}
use Rattle.gdp_grammar.specs.PropTexts.{argument_count, takes, is_formed, are_formed}
use Rattle.text_grammar.proofs.Bools.{both, and_true}
use Rattle.text_grammar.proofs.DigitsLemmas.{decimal_value}
use Rattle.gdp_grammar.proofs.PropMachine.{neither}
use Rattle.gdp_grammar.proofs.Rebuilt.{name_within, position_is}

-- the names of Booleans
abbrev pub names_in : List BooleanValue → List (List ℕ)
names_in bs = map (λ (b : BooleanValue). b.0) bs

-- the list begins with the names of the Booleans, which are names and differ
pub record AreNamed (names : List (List ℕ)) (bs : List BooleanValue) : Type 0 where
  pub differ : are_names (names_in bs) ≡ true
  pub agree : (k : ℕ) → k < length bs → slice_index_or names k [] ≡ slice_index_or (names_in bs) k []

-- the names of the first Booleans of a list of names
pub named_first : (names : List (List ℕ)) (bs : List BooleanValue) → names_in bs ≡ take (length bs) names → are_names (names_in bs) ≡ true → AreNamed names bs
named_first names bs first differ =
    record { differ = differ; agree = λ k h. sym (get_or-take (length bs) names k [] h) ∙ ap (λ (l : List (List ℕ)). slice_index_or l k []) (sym first) }

pub named_whole : (bs : List BooleanValue) → are_names (names_in bs) ≡ true → AreNamed (names_in bs) bs
named_whole bs differ = record { differ = differ; agree = λ k h. refl }

pub below : (k n : ℕ) → nat_lt k n ≡ true → k < n
below k n e = grind (arith, nat_tests)

pub number_within : (bs : List BooleanValue) (k : ℕ) → k < length bs → k < length (names_in bs)
number_within bs k h = omega (arith, h, length-map bs (λ (b : BooleanValue). b.0))

-- the number of a Boolean by its name
pub number_again : (names : List (List ℕ)) (bs : List BooleanValue) → AreNamed names bs → (k : ℕ) → k < length bs → boolean_number bs (slice_index_or names k []) ≡ Some k
number_again names bs a k h =
    ap (λ name. boolean_number bs name) (a.agree k h) ∙ position_is (names_in bs) k a.differ (number_within bs k h)

pub named_name : (names : List (List ℕ)) (bs : List BooleanValue) → AreNamed names bs → (k : ℕ) → k < length bs → is_name (slice_index_or names k []) ≡ true
named_name names bs a k h = ap is_name (a.agree k h) ∙ name_within (names_in bs) k a.differ (number_within bs k h)

pub unreserved : (name : List ℕ) → is_name name ≡ true → not (is_reserved name) ≡ true
unfolding is_name
unreserved name p = (both (has_name_shape name && nat_le (length name) 64) (not (has_name name reserved_words)) p).1

pub max_first : (a b n : ℕ) → max a b < n → a < n
max_first a b n h = omega arith

pub max_second : (a b n : ℕ) → max a b < n → b < n
max_second a b n h = omega arith

pub combined_again : (c : ListConnective) (ps : PropTrees) → number_of c < 10 ^ 64 → combined (list_operator c) ps ≡ listed c ps
combined_again all_of ps h = refl
combined_again some_of ps h = refl
combined_again (exactly n) ps h = ap (λ k. listed (exactly k) ps) (decimal_value n h)
combined_again (at_least n) ps h = ap (λ k. listed (at_least k) ps) (decimal_value n h)
combined_again (at_most n) ps h = ap (λ k. listed (at_most k) ps) (decimal_value n h)

-- the tree again
mutual
  pub tree_again : (names : List (List ℕ)) (bs : List BooleanValue) → AreNamed names bs → (p : PropTree) → are_ids_below (length bs) p ≡ true → greatest_number_of p < 10 ^ 64 → tree_in bs (named_in names p) ≡ p
  tree_again names bs a (atom k) ids small = ap (λ (o : Option ℕ). atom (unwrap_or o 0)) (number_again names bs a k (below k (length bs) ids))
  tree_again names bs a (negated p) ids small = ap (λ t. negated t) (tree_again names bs a p ids small)
  tree_again names bs a (paired c p q) ids small =
      let h = both (are_ids_below (length bs) p) (are_ids_below (length bs) q) ids in
      ap (λ t. paired c t (tree_in bs (named_in names q))) (tree_again names bs a p h.0 (max_first (greatest_number_of p) (greatest_number_of q) (10 ^ 64) small))
      ∙ ap (λ t. paired c p t) (tree_again names bs a q h.1 (max_second (greatest_number_of p) (greatest_number_of q) (10 ^ 64) small))
  tree_again names bs a (listed c ps) ids small =
      combined_again c (trees_in bs (all_named_in names ps)) (max_first (number_of c) (greatest_number_within ps) (10 ^ 64) small)
      ∙ ap (λ ts. listed c ts) (trees_again names bs a ps ids (max_second (number_of c) (greatest_number_within ps) (10 ^ 64) small))

  pub trees_again : (names : List (List ℕ)) (bs : List BooleanValue) → AreNamed names bs → (ps : PropTrees) → are_all_ids_below (length bs) ps ≡ true → greatest_number_within ps < 10 ^ 64
      → trees_in bs (all_named_in names ps) ≡ ps
  trees_again names bs a no_props ids small = refl
  trees_again names bs a (prop p ps) ids small =
      let h = both (are_ids_below (length bs) p) (are_all_ids_below (length bs) ps) ids in
      ap (λ t. prop t (trees_in bs (all_named_in names ps))) (tree_again names bs a p h.0 (max_first (greatest_number_of p) (greatest_number_within ps) (10 ^ 64) small))
      ∙ ap (λ ts. prop p ts) (trees_again names bs a ps h.1 (max_second (greatest_number_of p) (greatest_number_within ps) (10 ^ 64) small))

-- a list that is not empty is as many as an operator takes
pub some_le : (n : ℕ) → nat_le 1 (suc n) ≡ true
some_le n = grind (arith, nat_tests)

pub list_taken : (c : ListConnective) (names : List (List ℕ)) (ps : PropTrees) → is_empty ps ≡ false → takes (list_operator c) (argument_count (all_named_in names ps)) ≡ true
list_taken c names no_props e = absurd (cc e)
list_taken all_of names (prop p ps) e = some_le (argument_count (all_named_in names ps))
list_taken some_of names (prop p ps) e = some_le (argument_count (all_named_in names ps))
list_taken (exactly n) names (prop p ps) e = some_le (argument_count (all_named_in names ps))
list_taken (at_least n) names (prop p ps) e = some_le (argument_count (all_named_in names ps))
list_taken (at_most n) names (prop p ps) e = some_le (argument_count (all_named_in names ps))

-- it has one of the forms
mutual
  pub formed_named : (names : List (List ℕ)) (bs : List BooleanValue) → AreNamed names bs → (p : PropTree) → are_ids_below (length bs) p ≡ true → has_empty_list_of p ≡ false → is_formed (named_in names p) ≡ true
  formed_named names bs a (atom k) ids filled = unreserved (slice_index_or names k []) (named_name names bs a k (below k (length bs) ids))
  formed_named names bs a (negated p) ids filled = and_true (is_formed (named_in names p)) true (formed_named names bs a p ids filled) refl
  formed_named names bs a (paired c p q) ids filled =
      let h = both (are_ids_below (length bs) p) (are_ids_below (length bs) q) ids in
      let n = neither (has_empty_list_of p) (has_empty_list_of q) filled in
      and_true (is_formed (named_in names p)) (is_formed (named_in names q) && true) (formed_named names bs a p h.0 n.0)
      (and_true (is_formed (named_in names q)) true (formed_named names bs a q h.1 n.1) refl)
  formed_named names bs a (listed c ps) ids filled =
      let n = neither (is_empty ps) (has_empty_list_within ps) filled in
      and_true (takes (list_operator c) (argument_count (all_named_in names ps))) (are_formed (all_named_in names ps)) (list_taken c names ps n.0) (all_formed_named names bs a ps ids n.1)

  pub all_formed_named : (names : List (List ℕ)) (bs : List BooleanValue) → AreNamed names bs → (ps : PropTrees) → are_all_ids_below (length bs) ps ≡ true → has_empty_list_within ps ≡ false
      → are_formed (all_named_in names ps) ≡ true
  all_formed_named names bs a no_props ids filled = refl
  all_formed_named names bs a (prop p ps) ids filled =
      let h = both (are_ids_below (length bs) p) (are_all_ids_below (length bs) ps) ids in
      let n = neither (has_empty_list_of p) (has_empty_list_within ps) filled in
      and_true (is_formed (named_in names p)) (are_formed (all_named_in names ps)) (formed_named names bs a p h.0 n.0) (all_formed_named names bs a ps h.1 n.1)

-- its names are those of Booleans
mutual
  pub known_named : (names : List (List ℕ)) (bs : List BooleanValue) → AreNamed names bs → (p : PropTree) → are_ids_below (length bs) p ≡ true → are_known bs (named_in names p) ≡ true
  known_named names bs a (atom k) ids = ap (λ (o : Option ℕ). is_some o) (number_again names bs a k (below k (length bs) ids))
  known_named names bs a (negated p) ids = and_true (are_known bs (named_in names p)) true (known_named names bs a p ids) refl
  known_named names bs a (paired c p q) ids =
      let h = both (are_ids_below (length bs) p) (are_ids_below (length bs) q) ids in
      and_true (are_known bs (named_in names p)) (are_known bs (named_in names q) && true) (known_named names bs a p h.0)
      (and_true (are_known bs (named_in names q)) true (known_named names bs a q h.1) refl)
  known_named names bs a (listed c ps) ids = all_known_named names bs a ps ids

  pub all_known_named : (names : List (List ℕ)) (bs : List BooleanValue) → AreNamed names bs → (ps : PropTrees) → are_all_ids_below (length bs) ps ≡ true → are_all_known bs (all_named_in names ps) ≡ true
  all_known_named names bs a no_props ids = refl
  all_known_named names bs a (prop p ps) ids =
      let h = both (are_ids_below (length bs) p) (are_all_ids_below (length bs) ps) ids in
      and_true (are_known bs (named_in names p)) (are_all_known bs (all_named_in names ps)) (known_named names bs a p h.0) (all_known_named names bs a ps h.1)
