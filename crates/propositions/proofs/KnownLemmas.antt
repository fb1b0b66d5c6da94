-- With no Boolean open a reading is the truth.
use Rattle.std.proofs.Common.{◌≡◌, ℕ, ◌+◌, Bool, true, false, not, ◌&&◌, ◌||◌, List, [], ◌∷◌, map, nat_eq, nat_le, nat_lt, cond, refl, ap, sym, ◌∙◌, arith}
use Rattle.std.proofs.lemmas.Bool.Decides.{nat_tests}
use Rattle.std.specs.Int.{from_bool}
use Rattle.gdp_tables.specs.declared.tri.Tri.{Tri}
use Rattle.gdp_tables.specs.declared.tri.Tri.TheVariants.{No, Yes, Open}
use Rattle.gdp_tables.specs.Completions.{known, are_same}
use Rattle.gdp_tables.specs.Readings.{not_of, and_of, or_of, same_of}
use Rattle.propositions.proofs.CompletionLemmas.{at_most_is, exactly_is}
use Rattle.propositions.proofs.Layers.{count_more}
use Rattle.propositions.specs.Tree.{PairConnective, implies, equivalent, xor, ListConnective, all_of, some_of, exactly, at_least, at_most, PropTree, atom, negated, paired, listed, PropTrees, no_props, prop}
use Rattle.propositions.specs.Truth.{are_all_true, is_some_true, true_count, pair_truth, list_truth, truth_of, truths_of}
use Rattle.propositions.specs.Reading.{and_all, or_all, is_yes, is_open, yes_count, open_count, at_least_of, at_most_of, exactly_of, pair_tri, list_tri, tri_of, tris_of}

pub known_not : (a : Bool) → not_of (known a) ≡ known (not a)
known_not false = refl
known_not true = refl

pub known_and : (a b : Bool) → and_of (known a) (known b) ≡ known (a && b)
known_and false false = refl
known_and false true = refl
known_and true false = refl
known_and true true = refl

pub known_or : (a b : Bool) → or_of (known a) (known b) ≡ known (a || b)
known_or false false = refl
known_or false true = refl
known_or true false = refl
known_or true true = refl

pub known_same : (a b : Bool) → same_of (known a) (known b) ≡ known (are_same a b)
known_same false false = refl
known_same false true = refl
known_same true false = refl
known_same true true = refl

pub pair_known : (c : PairConnective) (a b : Bool) → pair_tri c (known a) (known b) ≡ known (pair_truth c a b)
pair_known implies a b = rw (known_not a) (known_or (not a) b)
pair_known equivalent a b = known_same a b
pair_known xor a b = rw (known_same a b) (known_not (are_same a b))

pub all_known : (bs : List Bool) → and_all (map known bs) ≡ known (are_all_true bs)
all_known [] = refl
all_known (b ∷ bs) = rw (all_known bs) (known_and b (are_all_true bs))

pub some_known : (bs : List Bool) → or_all (map known bs) ≡ known (is_some_true bs)
some_known [] = refl
some_known (b ∷ bs) = rw (some_known bs) (known_or b (is_some_true bs))

pub known_yes : (b : Bool) → from_bool (is_yes (known b)) ≡ from_bool b
known_yes false = refl
known_yes true = refl

pub known_open : (b : Bool) → from_bool (is_open (known b)) ≡ 0
known_open false = refl
known_open true = refl

pub yes_known : (bs : List Bool) → yes_count (map known bs) ≡ true_count bs
yes_known [] = refl
yes_known (b ∷ bs) = omega (arith, known_yes b, yes_known bs, count_more is_yes (known b) (map known bs), count_more (λ x. x) b bs)

pub none_open : (bs : List Bool) → open_count (map known bs) ≡ 0
none_open [] = refl
none_open (b ∷ bs) = omega (arith, known_open b, none_open bs, count_more is_open (known b) (map known bs))

pub tests_known : (is_sure is_past : Bool) → (is_sure ≡ false → is_past ≡ true) → cond is_sure Yes (cond is_past No Open) ≡ known is_sure
tests_known true is_past f = refl
tests_known false is_past f = rw (f refl) refl

pub past : (n count : ℕ) → nat_le n count ≡ false → nat_lt (count + 0) n ≡ true
past n count h = grind (arith, nat_tests)

pub at_least_known : (n count : ℕ) → at_least_of n count 0 ≡ known (nat_le n count)
at_least_known n count = tests_known (nat_le n count) (nat_lt (count + 0) n) (past n count)

pub at_most_known : (n count : ℕ) → at_most_of n count 0 ≡ known (nat_le count n)
at_most_known n count = ap not_of (at_least_known (n + 1) count) ∙ known_not (nat_le (n + 1) count) ∙ ap known (sym (at_most_is n count))

pub exactly_known : (n count : ℕ) → exactly_of n count 0 ≡ known (nat_eq count n)
exactly_known n count =
    ap (λ t. and_of t (at_most_of n count 0)) (at_least_known n count) ∙ ap (λ t. and_of (known (nat_le n count)) t) (at_most_known n count)
    ∙ known_and (nat_le n count) (nat_le count n) ∙ ap known (sym (exactly_is n count))

pub list_known : (c : ListConnective) (bs : List Bool) → list_tri c (map known bs) ≡ known (list_truth c bs)
list_known all_of bs = all_known bs
list_known some_of bs = some_known bs
list_known (exactly n) bs = ap (λ y. exactly_of n y (open_count (map known bs))) (yes_known bs) ∙ ap (λ u. exactly_of n (true_count bs) u) (none_open bs) ∙ exactly_known n (true_count bs)
list_known (at_least n) bs = ap (λ y. at_least_of n y (open_count (map known bs))) (yes_known bs) ∙ ap (λ u. at_least_of n (true_count bs) u) (none_open bs) ∙ at_least_known n (true_count bs)
list_known (at_most n) bs = ap (λ y. at_most_of n y (open_count (map known bs))) (yes_known bs) ∙ ap (λ u. at_most_of n (true_count bs) u) (none_open bs) ∙ at_most_known n (true_count bs)

mutual
  pub prop_known : (p : PropTree) (xs : ℕ → Bool) (ts : ℕ → Tri) → ((k : ℕ) → ts k ≡ known (xs k)) → tri_of p ts ≡ known (truth_of p xs)
  prop_known (atom k) xs ts h = h k
  prop_known (negated p) xs ts h = ap not_of (prop_known p xs ts h) ∙ known_not (truth_of p xs)
  prop_known (paired c p q) xs ts h =
      ap (λ a. pair_tri c a (tri_of q ts)) (prop_known p xs ts h) ∙ ap (λ b. pair_tri c (known (truth_of p xs)) b) (prop_known q xs ts h)
      ∙ pair_known c (truth_of p xs) (truth_of q xs)
  prop_known (listed c ps) xs ts h = ap (list_tri c) (props_known ps xs ts h) ∙ list_known c (truths_of ps xs)

  pub props_known : (ps : PropTrees) (xs : ℕ → Bool) (ts : ℕ → Tri) → ((k : ℕ) → ts k ≡ known (xs k)) → tris_of ps ts ≡ map known (truths_of ps xs)
  props_known no_props xs ts h = refl
  props_known (prop p ps) xs ts h =
      ap (λ t. t ∷ tris_of ps ts) (prop_known p xs ts h) ∙ ap (λ r. known (truth_of p xs) ∷ r) (props_known ps xs ts h)
