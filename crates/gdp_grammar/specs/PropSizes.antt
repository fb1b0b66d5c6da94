-- How large a proposition of a text is.
use Rattle.std.specs.Prelude.{ℕ, ◌+◌, max}
use Rattle.text_grammar.specs.Digits.{value_after}
use Rattle.gdp_grammar.specs.PropTexts.{Operator, counted, NamedProp, named, applied, NamedProps, no_arguments, argument, argument_count}

-- the depth: 1 of a name, and else one more than that of the deepest argument
abbrev mutual
  pub named_depth : NamedProp → ℕ
  named_depth (named name) = 1
  named_depth (applied o ps) = 1 + named_depth_within ps

  pub named_depth_within : NamedProps → ℕ
  named_depth_within no_arguments = 0
  named_depth_within (argument p ps) = max (named_depth p) (named_depth_within ps)

-- how many nodes there are: names and operators
abbrev mutual
  pub named_nodes : NamedProp → ℕ
  named_nodes (named name) = 1
  named_nodes (applied o ps) = 1 + named_nodes_within ps

  pub named_nodes_within : NamedProps → ℕ
  named_nodes_within no_arguments = 0
  named_nodes_within (argument p ps) = named_nodes p + named_nodes_within ps

-- the most arguments that one operator has
abbrev mutual
  pub named_most : NamedProp → ℕ
  named_most (named name) = 0
  named_most (applied o ps) = max (argument_count ps) (named_most_within ps)

  pub named_most_within : NamedProps → ℕ
  named_most_within no_arguments = 0
  named_most_within (argument p ps) = max (named_most p) (named_most_within ps)

-- the number of a counting operator, 0 of another
abbrev pub number_in : Operator → ℕ
number_in (counted c digits) = value_after 0 digits
number_in o = 0

-- the greatest number of a counting operator, 0 where there is none
abbrev mutual
  pub named_greatest : NamedProp → ℕ
  named_greatest (named name) = 0
  named_greatest (applied o ps) = max (number_in o) (named_greatest_within ps)

  pub named_greatest_within : NamedProps → ℕ
  named_greatest_within no_arguments = 0
  named_greatest_within (argument p ps) = max (named_greatest p) (named_greatest_within ps)
