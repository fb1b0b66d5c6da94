-- Texts of propositions that grow part by part.
use Rattle.std.proofs.Common.{◌≡◌, ℕ, Bool, true, false, List, [], ◌++◌, codes, append_assoc, append-nil, ap, sym, ◌∙◌, Box, Global}
use Rattle.std.specs.Fmt.{decimal}
use Rattle.propositions.specs.declared.tree.Prop.{Prop}
use Rattle.propositions.specs.declared.tree.Prop.TheFolds.{fold-roll-Prop}
use Rattle.propositions.specs.declared.tree.Prop.TheVariants.{Implies, Equivalent, Xor, rolls-Implies, rolls-Equivalent, rolls-Xor}
use Rattle.propositions.specs.Tree.{PropTree, paired, implies, equivalent, xor}
use Rattle.propositions.specs.View.{prop_layer, prop_tree}
use Rattle.gdp_grammar.specs.PropTexts.{NamedProps}
use Rattle.gdp_grammar.specs.PropNames.{arguments_text, further_text}
use Rattle.gdp_printer.proofs.Texts.{appended}

-- the text of arguments from the first on, or of further ones
abbrev pub text_from : Bool → NamedProps → List ℕ
text_from true ps = arguments_text ps
text_from false ps = further_text ps

-- the tree of an operator of two arguments
pub implies_tree : (p q : Box Prop Global) → prop_tree (Implies p q) ≡ paired implies (prop_tree p.value) (prop_tree q.value)
implies_tree p q = ap prop_tree (sym (rolls-Implies p q)) ∙ fold-roll-Prop PropTree prop_layer _

pub equivalent_tree : (p q : Box Prop Global) → prop_tree (Equivalent p q) ≡ paired equivalent (prop_tree p.value) (prop_tree q.value)
equivalent_tree p q = ap prop_tree (sym (rolls-Equivalent p q)) ∙ fold-roll-Prop PropTree prop_layer _

pub xor_tree : (p q : Box Prop Global) → prop_tree (Xor p q) ≡ paired xor (prop_tree p.value) (prop_tree q.value)
xor_tree p q = ap prop_tree (sym (rolls-Xor p q)) ∙ fold-roll-Prop PropTree prop_layer _

-- one argument, and two
pub one_put : (word p old a b : List ℕ) → a ≡ old ++ (word ++ p) → b ≡ a ++ codes ")" → b ≡ old ++ (word ++ ((p ++ []) ++ codes ")"))
one_put word p old a b e f =
    appended old a b (word ++ p) (codes ")") e f ∙ ap (λ t. old ++ t) (append_assoc word p (codes ")") ∙ ap (λ t. word ++ (t ++ codes ")")) (sym (append-nil p)))

pub two_put : (word p q old a b c : List ℕ) → a ≡ old ++ (word ++ p) → b ≡ a ++ (codes ", " ++ q) → c ≡ b ++ codes ")"
    → c ≡ old ++ (word ++ ((p ++ (codes ", " ++ (q ++ []))) ++ codes ")"))
two_put word p q old a b c e f g =
    let two : b ≡ old ++ (word ++ (p ++ (codes ", " ++ q))) =
    appended old a b (word ++ p) (codes ", " ++ q) e f ∙ ap (λ t. old ++ t) (append_assoc word p (codes ", " ++ q)) in
    one_put word (p ++ (codes ", " ++ q)) old b c two g
    ∙ ap (λ t. old ++ (word ++ (t ++ codes ")"))) (append_assoc p (codes ", " ++ q) [])

-- the opening of a counting operator, and its arguments
pub counted_put : (word : List ℕ) (n : ℕ) (arguments old a b : List ℕ) → a ≡ old ++ (word ++ (codes "(" ++ (decimal n ++ codes ", ")))
    → b ≡ a ++ ([] ++ (arguments ++ codes ")")) → b ≡ old ++ ((word ++ (codes "(" ++ (decimal n ++ codes ", "))) ++ (arguments ++ codes ")"))
counted_put word n arguments old a b e f = appended old a b (word ++ (codes "(" ++ (decimal n ++ codes ", "))) (arguments ++ codes ")") e f
