-- The trees of stored connectives.
use Rattle.std.proofs.Common.{◌≡◌, ℕ, ap, sym, ◌∙◌, Vec, Box, Global}
use Rattle.propositions.specs.declared.tree.Prop.{Prop}
use Rattle.propositions.specs.declared.tree.Prop.TheFolds.{fold-roll-Prop}
use Rattle.propositions.specs.declared.tree.Prop.TheVariants.{And, Or, Implies, Equivalent, Xor, Exactly, AtLeast, AtMost, rolls-And, rolls-Or, rolls-Implies, rolls-Equivalent, rolls-Xor, rolls-Exactly, rolls-AtLeast, rolls-AtMost}
use Rattle.propositions.specs.Tree.{PropTree, all_of, at_least, at_most, equivalent, exactly, implies, listed, paired, some_of, xor}
use Rattle.propositions.specs.View.{prop_layer, prop_tree, prop_trees}

pub tree_of_And : (p : Prop) (ps : Vec Prop Global) → p ≡ And ps → prop_tree p ≡ listed all_of (prop_trees ps.items)
tree_of_And p ps e = ap prop_tree (e ∙ sym (rolls-And ps)) ∙ fold-roll-Prop PropTree prop_layer _

pub tree_of_Or : (p : Prop) (ps : Vec Prop Global) → p ≡ Or ps → prop_tree p ≡ listed some_of (prop_trees ps.items)
tree_of_Or p ps e = ap prop_tree (e ∙ sym (rolls-Or ps)) ∙ fold-roll-Prop PropTree prop_layer _

pub tree_of_Exactly : (p : Prop) (n : ℕ) (ps : Vec Prop Global) → p ≡ Exactly n ps → prop_tree p ≡ listed (exactly n) (prop_trees ps.items)
tree_of_Exactly p n ps e = ap prop_tree (e ∙ sym (rolls-Exactly n ps)) ∙ fold-roll-Prop PropTree prop_layer _

pub tree_of_AtLeast : (p : Prop) (n : ℕ) (ps : Vec Prop Global) → p ≡ AtLeast n ps → prop_tree p ≡ listed (at_least n) (prop_trees ps.items)
tree_of_AtLeast p n ps e = ap prop_tree (e ∙ sym (rolls-AtLeast n ps)) ∙ fold-roll-Prop PropTree prop_layer _

pub tree_of_AtMost : (p : Prop) (n : ℕ) (ps : Vec Prop Global) → p ≡ AtMost n ps → prop_tree p ≡ listed (at_most n) (prop_trees ps.items)
tree_of_AtMost p n ps e = ap prop_tree (e ∙ sym (rolls-AtMost n ps)) ∙ fold-roll-Prop PropTree prop_layer _

pub tree_of_Implies : (p : Prop) (a b : Box Prop Global) → p ≡ Implies a b → prop_tree p ≡ paired implies (prop_tree a.value) (prop_tree b.value)
tree_of_Implies p a b e = ap prop_tree (e ∙ sym (rolls-Implies a b)) ∙ fold-roll-Prop PropTree prop_layer _

pub tree_of_Equivalent : (p : Prop) (a b : Box Prop Global) → p ≡ Equivalent a b → prop_tree p ≡ paired equivalent (prop_tree a.value) (prop_tree b.value)
tree_of_Equivalent p a b e = ap prop_tree (e ∙ sym (rolls-Equivalent a b)) ∙ fold-roll-Prop PropTree prop_layer _

pub tree_of_Xor : (p : Prop) (a b : Box Prop Global) → p ≡ Xor a b → prop_tree p ≡ paired xor (prop_tree a.value) (prop_tree b.value)
tree_of_Xor p a b e = ap prop_tree (e ∙ sym (rolls-Xor a b)) ∙ fold-roll-Prop PropTree prop_layer _
