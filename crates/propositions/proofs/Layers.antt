-- Lists of propositions, and the arguments that they stand for.
use Rattle.std.proofs.Common.{◌≡◌, ℕ, ◌+◌, ◌<◌, suc, List, [], ◌∷◌, map, length, get_or, drop, nat_eq, Bool, true, false, cond, ◌≤◌, refl, ap, sym, ◌∙◌, Vec, Global, add-one, arith, drop-cons}
use Rattle.std.proofs.lemmas.Bool.Decides.{nat_tests}
use Rattle.std.specs.Int.{from_bool}
use Rattle.std.specs.List.{count_by}
use Rattle.std.proofs.lemmas.List.Sums.{sum_by-cons}
use Rattle.gdp_tables.specs.declared.tri.Tri.{Tri}
use Rattle.gdp_tables.specs.declared.tri.Tri.TheVariants.{No, Yes, Open}
use Rattle.propositions.specs.Reading.{is_yes, is_open}
use Rattle.propositions.specs.declared.tree.Prop.{Prop}
use Rattle.propositions.specs.declared.tree.Prop.TheFolds.{fold-roll-Prop}
use Rattle.propositions.specs.declared.tree.Prop.TheVariants.{Exactly, AtLeast, AtMost, rolls-Exactly, rolls-AtLeast, rolls-AtMost}
use Rattle.propositions.specs.Sizes.{is_empty, prop_count}
use Rattle.propositions.specs.Tree.{PropTree, PropTrees, no_props, prop, listed, exactly, at_least, at_most}
use Rattle.propositions.specs.View.{in_order, prop_layer, prop_tree, prop_trees}

-- there are as many arguments as propositions
pub counted : (ps : List Prop) → prop_count (in_order (map prop_tree ps)) ≡ length ps
counted [] = refl
counted (p ∷ ps) = ap suc (counted ps)

-- from one place on they are that argument and the ones after it
pub trees_at : (ps : List Prop) (i : ℕ) (p : Prop) → i < length ps → p ≡ get_or ps i p
    → prop_trees (drop i ps) ≡ prop (prop_tree p) (prop_trees (drop (i + 1) ps))
trees_at ps i p within e = rw (add-one, drop-cons ps i p, ← e) refl

-- a truth value adds 1 at most
pub adds_one_at_most : (b : Bool) → from_bool b ≤ 1
adds_one_at_most true = omega arith
adds_one_at_most false = omega arith

-- how many pass a test, one more item in front
pub count_more : {X : Type 0} (test : X → Bool) (x : X) (xs : List X) → count_by test (x ∷ xs) ≡ from_bool (test x) + count_by test xs
count_more test x xs = sum_by-cons (λ y. cond (test y) 1 0) x xs ∙ ap (λ n. n + count_by test xs) (as_byte (test x))
  where
    as_byte : (b : Bool) → cond b 1 0 ≡ from_bool b
    as_byte true = refl
    as_byte false = refl

-- what the first argument adds is added
pub added : (count r s x y sum : ℕ) → r ≡ s → x ≡ s + y → count + x ≡ sum → (count + r) + y ≡ sum
added count r s x y sum e f h = omega arith

-- a reading is yes or open, and not both
pub one_at_most : (t : Tri) → from_bool (is_yes t) + from_bool (is_open t) ≤ 1
one_at_most No = omega arith
one_at_most Yes = omega arith
one_at_most Open = omega arith

pub no_more_than_one : (sure undecided i y u : ℕ) (t : Tri) → y ≡ from_bool (is_yes t) → u ≡ from_bool (is_open t) → sure + undecided ≤ i
    → (sure + y) + (undecided + u) ≤ i + 1
no_more_than_one sure undecided i y u t e f h = omega (arith, one_at_most t)

-- what depends on two counts
pub same_counts : {T : Type 0} (f : ℕ → ℕ → T) {a b c d : ℕ} → a ≡ c → b ≡ d → f a b ≡ f c d
same_counts f e g = cc

-- there are no arguments where their number is 0
pub emptied : (ps : PropTrees) → is_empty ps ≡ nat_eq (prop_count ps) 0
emptied no_props = refl
emptied (prop p ps) = grind (arith, nat_tests)

-- the tree of a counting connective
pub exactly_tree : (n : ℕ) (ps : Vec Prop Global) → prop_tree (Exactly n ps) ≡ listed (exactly n) (prop_trees ps.items)
exactly_tree n ps = ap prop_tree (sym (rolls-Exactly n ps)) ∙ fold-roll-Prop PropTree prop_layer _

pub at_least_tree : (n : ℕ) (ps : Vec Prop Global) → prop_tree (AtLeast n ps) ≡ listed (at_least n) (prop_trees ps.items)
at_least_tree n ps = ap prop_tree (sym (rolls-AtLeast n ps)) ∙ fold-roll-Prop PropTree prop_layer _

pub at_most_tree : (n : ℕ) (ps : Vec Prop Global) → prop_tree (AtMost n ps) ≡ listed (at_most n) (prop_trees ps.items)
at_most_tree n ps = ap prop_tree (sym (rolls-AtMost n ps)) ∙ fold-roll-Prop PropTree prop_layer _
