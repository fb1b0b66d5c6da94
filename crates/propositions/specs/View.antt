-- The plain tree that a stored proposition stands for.
use Rattle.std.specs.Prelude.{List, [], ◌∷◌, map}
use Rattle.propositions.specs.Tree.{implies, equivalent, xor, all_of, some_of, exactly, at_least, at_most, PropTree, atom, negated, paired, listed, PropTrees, no_props, prop}
use Rattle.propositions.specs.declared.tree.Prop.{Prop, fold-Prop}
use Rattle.propositions.specs.declared.tree.Prop.TheOpen.{Prop-F}

-- propositions in order
abbrev pub in_order : List PropTree → PropTrees
in_order [] = no_props
in_order (p ∷ ps) = prop p (in_order ps)

-- one layer
abbrev pub prop_layer : Prop-F PropTree → PropTree
prop_layer (Prop-F.Atom k) = atom k
prop_layer (Prop-F.Not p) = negated p.value
prop_layer (Prop-F.And ps) = listed all_of (in_order ps.items)
prop_layer (Prop-F.Or ps) = listed some_of (in_order ps.items)
prop_layer (Prop-F.Implies p q) = paired implies p.value q.value
prop_layer (Prop-F.Equivalent p q) = paired equivalent p.value q.value
prop_layer (Prop-F.Xor p q) = paired xor p.value q.value
prop_layer (Prop-F.Exactly n ps) = listed (exactly n) (in_order ps.items)
prop_layer (Prop-F.AtLeast n ps) = listed (at_least n) (in_order ps.items)
prop_layer (Prop-F.AtMost n ps) = listed (at_most n) (in_order ps.items)

-- the tree of a proposition
abbrev pub prop_tree : Prop → PropTree
prop_tree = fold-Prop PropTree prop_layer

-- the trees of several, in order
abbrev pub prop_trees : List Prop → PropTrees
prop_trees ps = in_order (map prop_tree ps)
