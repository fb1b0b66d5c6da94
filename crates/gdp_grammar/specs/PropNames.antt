-- The Booleans that a proposition names, and the text that it is written with.
use Rattle.std.specs.Prelude.{ℕ, Bool, true, ◌&&◌, List, [], ◌++◌, map, codes, Option, is_some, unwrap_or, position, bytes_eq, slice_index_or}
use Rattle.std.specs.Fmt.{decimal}
use Rattle.propositions.specs.Tree.{ListConnective, all_of, some_of, PropTree, atom, negated, paired, listed, PropTrees, no_props, prop}
use Rattle.propositions.specs.Tree as tree
use Rattle.model_tree.specs.Variables.{BooleanValue}
use Rattle.text_grammar.specs.Digits.{value_after}
use Rattle.gdp_grammar.specs.PropTexts.{Counting, exactly, at_least, at_most, Operator, negation, pair, all, some, counted, NamedProp, named, applied, NamedProps, no_arguments, argument, pair_word, counting_word}

-- the number of the Boolean with this name, if there is one
abbrev pub boolean_number : List BooleanValue → List ℕ → Option ℕ
boolean_number booleans name = position (bytes_eq name) (map (λ b. b.0) booleans)

-- each name is that of a Boolean
abbrev mutual
  pub are_known : List BooleanValue → NamedProp → Bool
  are_known booleans (named name) = is_some (boolean_number booleans name)
  are_known booleans (applied o ps) = are_all_known booleans ps

  pub are_all_known : List BooleanValue → NamedProps → Bool
  are_all_known booleans no_arguments = true
  are_all_known booleans (argument p ps) = are_known booleans p && are_all_known booleans ps

-- the counting connective with this number
abbrev pub counting_connective : Counting → ℕ → ListConnective
counting_connective exactly n = tree.exactly n
counting_connective at_least n = tree.at_least n
counting_connective at_most n = tree.at_most n

-- The tree of an operator over the trees of its arguments. One that has not as many as it takes is never read; its tree
-- is then that of `and`.
abbrev pub combined : Operator → PropTrees → PropTree
combined negation (prop p no_props) = negated p
combined (pair c) (prop p (prop q no_props)) = paired c p q
combined some ps = listed some_of ps
combined (counted c digits) ps = listed (counting_connective c (value_after 0 digits)) ps
combined o ps = listed all_of ps

-- the tree of a proposition, by the numbers of the Booleans that it names
abbrev mutual
  pub tree_in : List BooleanValue → NamedProp → PropTree
  tree_in booleans (named name) = atom (unwrap_or (boolean_number booleans name) 0)
  tree_in booleans (applied o ps) = combined o (trees_in booleans ps)

  pub trees_in : List BooleanValue → NamedProps → PropTrees
  trees_in booleans no_arguments = no_props
  trees_in booleans (argument p ps) = prop (tree_in booleans p) (trees_in booleans ps)

-- the operator of a connective of a list
abbrev pub list_operator : ListConnective → Operator
list_operator all_of = all
list_operator some_of = some
list_operator (tree.exactly n) = counted exactly (decimal n)
list_operator (tree.at_least n) = counted at_least (decimal n)
list_operator (tree.at_most n) = counted at_most (decimal n)

-- a proposition with the names of its Booleans
abbrev mutual
  pub named_in : List (List ℕ) → PropTree → NamedProp
  named_in names (atom k) = named (slice_index_or names k [])
  named_in names (negated p) = applied negation (argument (named_in names p) no_arguments)
  named_in names (paired c p q) = applied (pair c) (argument (named_in names p) (argument (named_in names q) no_arguments))
  named_in names (listed c ps) = applied (list_operator c) (all_named_in names ps)

  pub all_named_in : List (List ℕ) → PropTrees → NamedProps
  all_named_in names no_props = no_arguments
  all_named_in names (prop p ps) = argument (named_in names p) (all_named_in names ps)

-- what is written before the first argument
abbrev pub opening_text : Operator → List ℕ
opening_text negation = codes "not("
opening_text (pair c) = pair_word c ++ codes "("
opening_text all = codes "and("
opening_text some = codes "or("
opening_text (counted c digits) = counting_word c ++ (codes "(" ++ (digits ++ codes ", "))

-- the text of a proposition, with a comma and a blank between arguments
abbrev mutual
  pub prop_text : NamedProp → List ℕ
  prop_text (named name) = name
  prop_text (applied o ps) = opening_text o ++ (arguments_text ps ++ codes ")")

  pub arguments_text : NamedProps → List ℕ
  arguments_text no_arguments = []
  arguments_text (argument p ps) = prop_text p ++ further_text ps

  pub further_text : NamedProps → List ℕ
  further_text no_arguments = []
  further_text (argument p ps) = codes ", " ++ (prop_text p ++ further_text ps)
