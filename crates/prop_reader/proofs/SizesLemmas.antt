-- The size of an operator over arguments, one argument after the other.
use Rattle.std.proofs.Common.{◌≡◌, ℕ, suc, ◌+◌, ◌-◌, ◌^◌, ◌≤◌, min, max, Bool, true, false, ◌&&◌, List, [], ◌∷◌, ◌++◌, length, refl, ap, sym, ◌∙◌, arith}
use Rattle.std.proofs.lemmas.List.{length-append}
use Rattle.std.proofs.lemmas.Bool.Decides.{nat_tests}
use Rattle.model_tree.specs.Variables.{BooleanValue}
use Rattle.gdp_grammar.specs.PropNames.{are_known, are_all_known}
use Rattle.gdp_grammar.specs.PropReading.{arguments}
use Rattle.gdp_grammar.specs.PropTexts.{Operator, negation, pair, all, some, counted, NamedProp, applied, argument_count, takes}
use Rattle.prop_reader.specs.declared.size.Size.{Size}
use Rattle.gdp_grammar.specs.PropSizes.{named_depth, named_depth_within, named_nodes, named_nodes_within, named_most, named_most_within, number_in, named_greatest, named_greatest_within}
use Rattle.prop_reader.specs.steps.Sizes.{count_end, size_of, joined_size, whole_size}
use Rattle.prop_reader.specs.steps.Operators.{operator_end}

-- a size by its parts
abbrev sized : Bool → ℕ → ℕ → ℕ → ℕ → Size
sized k g d n m = record { known = k; greatest = g; depth = d; nodes = n; most = m }

same_size : (k l : Bool) (g h d e n o m q : ℕ) → k ≡ l → g ≡ h → d ≡ e → n ≡ o → m ≡ q → sized k g d n m ≡ sized l h e o q
same_size k l g h d e n o m q ek eg ed en em = cc

-- the size of arguments
abbrev pub list_size : List BooleanValue → List NamedProp → Size
list_size booleans ps =
    sized (are_all_known booleans (arguments ps)) (operator_end (named_greatest_within (arguments ps))) (count_end (named_depth_within (arguments ps)))
    (count_end (named_nodes_within (arguments ps))) (count_end (named_most_within (arguments ps)))

-- one argument more
known_more : (booleans : List BooleanValue) (ps : List NamedProp) (p : NamedProp) → are_all_known booleans (arguments (ps ++ p ∷ [])) ≡ (are_all_known booleans (arguments ps) && are_known booleans p)
known_more booleans [] p = last (are_known booleans p)
  where
    last : (b : Bool) → (b && true) ≡ b
    last true = refl
    last false = refl
known_more booleans (q ∷ ps) p = ap (λ (b : Bool). are_known booleans q && b) (known_more booleans ps p) ∙ regroup (are_known booleans q)
  where
    regroup : (b : Bool) → (b && (are_all_known booleans (arguments ps) && are_known booleans p)) ≡ ((b && are_all_known booleans (arguments ps)) && are_known booleans p)
    regroup true = refl
    regroup false = refl

greatest_more : (ps : List NamedProp) (p : NamedProp) → named_greatest_within (arguments (ps ++ p ∷ [])) ≡ max (named_greatest_within (arguments ps)) (named_greatest p)
greatest_more [] p = omega arith
greatest_more (q ∷ ps) p = omega (arith, greatest_more ps p)

depth_more : (ps : List NamedProp) (p : NamedProp) → named_depth_within (arguments (ps ++ p ∷ [])) ≡ max (named_depth_within (arguments ps)) (named_depth p)
depth_more [] p = omega arith
depth_more (q ∷ ps) p = omega (arith, depth_more ps p)

nodes_more : (ps : List NamedProp) (p : NamedProp) → named_nodes_within (arguments (ps ++ p ∷ [])) ≡ named_nodes_within (arguments ps) + named_nodes p
nodes_more [] p = omega arith
nodes_more (q ∷ ps) p = omega (arith, nodes_more ps p)

most_more : (ps : List NamedProp) (p : NamedProp) → named_most_within (arguments (ps ++ p ∷ [])) ≡ max (named_most_within (arguments ps)) (named_most p)
most_more [] p = omega arith
most_more (q ∷ ps) p = omega (arith, most_more ps p)

-- numbers up to a last one
greatest_of : (l a b : ℕ) → max (min a l) (min b l) ≡ min (max a b) l
greatest_of l a b = omega arith

sum_of : (l a b : ℕ) → min (min a l + min b l) l ≡ min (a + b) l
sum_of l a b = omega arith

one_more : (l a : ℕ) → min (min a l + 1) l ≡ min (1 + a) l
one_more l a = omega arith

count_of : (ps : List NamedProp) → argument_count (arguments ps) ≡ length ps
count_of [] = refl
count_of (p ∷ ps) = ap suc (count_of ps)

pub takes_same : (l : ℕ) → 3 ≤ l → (o : Operator) (n : ℕ) → takes o (min n l) ≡ takes o n
takes_same l far negation n = grind (arith, nat_tests)
takes_same l far (pair c) n = grind (arith, nat_tests)
takes_same l far all n = grind (arith, nat_tests)
takes_same l far some n = grind (arith, nat_tests)
takes_same l far (counted c digits) n = grind (arith, nat_tests)

pub joins_size : (booleans : List BooleanValue) (ps : List NamedProp) (p : NamedProp) → joined_size (list_size booleans ps) (size_of booleans p) ≡ list_size booleans (ps ++ p ∷ [])
joins_size booleans ps p =
    same_size _ _ _ _ _ _ _ _ _ _ (sym (known_more booleans ps p))
    (greatest_of (2 ^ 32 - 1) (named_greatest_within (arguments ps)) (named_greatest p) ∙ ap operator_end (sym (greatest_more ps p)))
    (greatest_of (2 ^ 64 - 1) (named_depth_within (arguments ps)) (named_depth p) ∙ ap count_end (sym (depth_more ps p)))
    (sum_of (2 ^ 64 - 1) (named_nodes_within (arguments ps)) (named_nodes p) ∙ ap count_end (sym (nodes_more ps p)))
    (greatest_of (2 ^ 64 - 1) (named_most_within (arguments ps)) (named_most p) ∙ ap count_end (sym (most_more ps p)))

pub counts_more : (ps : List NamedProp) (p : NamedProp) → count_end (count_end (length ps) + 1) ≡ count_end (length (ps ++ p ∷ []))
counts_more ps p = one_more (2 ^ 64 - 1) (length ps) ∙ ap count_end (omega (arith, length-append ps (p ∷ [])))

swapped : (l a b : ℕ) → max (min a l) (min b l) ≡ min (max b a) l
swapped l a b = omega arith

pub whole_sized : (booleans : List BooleanValue) (o : Operator) (ps : List NamedProp) → whole_size o (count_end (length ps)) (list_size booleans ps) ≡ size_of booleans (applied o (arguments ps))
whole_sized booleans o ps =
    same_size _ _ _ _ _ _ _ _ _ _ refl
    (swapped (2 ^ 32 - 1) (named_greatest_within (arguments ps)) (number_in o))
    (one_more (2 ^ 64 - 1) (named_depth_within (arguments ps)))
    (one_more (2 ^ 64 - 1) (named_nodes_within (arguments ps)))
    (swapped (2 ^ 64 - 1) (named_most_within (arguments ps)) (length ps) ∙ ap (λ (n : ℕ). count_end (max n (named_most_within (arguments ps)))) (sym (count_of ps)))
