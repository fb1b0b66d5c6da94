-- Names of a letter and a number: they are names, and each is new behind those before it.
use Rattle.std.proofs.Common.{◌≡◌, ℕ, zero, suc, ◌<◌, ◌≤◌, Bool, true, false, ◌==◌, List, [], ◌∷◌, ◌++◌, map, refl, ap, sym, ◌∙◌, arith}
use Rattle.std.specs.Fmt.{decimal, digits}
use Rattle.std.specs.Str.{bytes_eq}
use Rattle.std.proofs.lemmas.Bool.{agree_below, agree_below_at}
use Rattle.std.proofs.lemmas.Bool.Decides.{nat_tests}
use Rattle.std.proofs.lemmas.Fmt.{decimal_injective}
use Rattle.std.proofs.lemmas.List.{map-append}
use Rattle.std.proofs.lemmas.Slice.Eq.{bytes_eq-Decides}
use Rattle.model_tree.specs.Names.{has_name, is_name, reserved_words}
use Rattle.model_tree.specs.Variables.{VarValue, BooleanValue}
use Rattle.model_tree.proofs.NamesLemmas.{has_append}
use Rattle.model_maker.specs.Generated.{vars_of, booleans_of}
use Rattle.model_maker.specs.Steps.{pair_names}

-- the names of the variables and Booleans
pub var_names_are : (s n : ℕ) → map (λ (v : VarValue). v.0) (vars_of s n) ≡ pair_names 120 110 n
var_names_are s zero = refl
var_names_are s (suc i) =
    map-append (λ (v : VarValue). v.0) (vars_of s i) _ ∙ ap (λ (ns : List (List ℕ)). ns ++ (120 ∷ decimal i) ∷ (110 ∷ decimal i) ∷ []) (var_names_are s i)

pub boolean_names_are : (size n : ℕ) → map (λ (b : BooleanValue). b.0) (booleans_of size n) ≡ pair_names 97 98 n
boolean_names_are size zero = refl
boolean_names_are size (suc i) =
    map-append (λ (b : BooleanValue). b.0) (booleans_of size i) _ ∙ ap (λ (ns : List (List ℕ)). ns ++ (97 ∷ decimal i) ∷ (98 ∷ decimal i) ∷ []) (boolean_names_are size i)

-- numbers that differ are written differently
other_number : (i k : ℕ) → k < i → i < 20 → bytes_eq (decimal i) (decimal k) ≡ false
other_number i k lt small = go (bytes_eq (decimal i) (decimal k)) refl
  where
    go : (t : Bool) → bytes_eq (decimal i) (decimal k) ≡ t → t ≡ false
    go true e =
        let same : i ≡ k = decimal_injective i k (omega (arith, small)) (omega (arith, small, lt)) ((bytes_eq-Decides (decimal i) (decimal k)).0 e) in
        absurd (omega (arith, same, lt))
    go false e = refl

-- a name of another letter is none of the pairs'
pub letters_differ : (a c d : ℕ) (ds : List ℕ) (n : ℕ) → (a == c) ≡ false → (a == d) ≡ false → has_name (a ∷ ds) (pair_names c d n) ≡ false
letters_differ a c d ds zero p q = refl
letters_differ a c d ds (suc i) p q =
    sym (has_append (a ∷ ds) (pair_names c d i) ((c ∷ decimal i) ∷ (d ∷ decimal i) ∷ [])) ∙ rw (letters_differ a c d ds i p q, p, q) refl

-- a name of the first letter is new behind so many pairs, and one of the second behind a first one more
pub first_new : (c d i n : ℕ) → (c == d) ≡ false → n ≤ i → i < 20 → has_name (c ∷ decimal i) (pair_names c d n) ≡ false
first_new c d i zero p le small = refl
first_new c d i (suc k) p le small =
    let new : bytes_eq (decimal i) (decimal k) ≡ false = other_number i k (omega (arith, le)) small in
    let same : (c == c) ≡ true = grind (arith, nat_tests) in
    sym (has_append (c ∷ decimal i) (pair_names c d k) ((c ∷ decimal k) ∷ (d ∷ decimal k) ∷ []))
    ∙ rw (first_new c d i k p (omega (arith, le)) small, same, new, p) refl

pub second_new : (c d i n : ℕ) → (d == c) ≡ false → n ≤ i → i < 20 → has_name (d ∷ decimal i) (pair_names c d n) ≡ false
second_new c d i zero p le small = refl
second_new c d i (suc k) p le small =
    let new : bytes_eq (decimal i) (decimal k) ≡ false = other_number i k (omega (arith, le)) small in
    let same : (d == d) ≡ true = grind (arith, nat_tests) in
    sym (has_append (d ∷ decimal i) (pair_names c d k) ((c ∷ decimal k) ∷ (d ∷ decimal k) ∷ []))
    ∙ rw (second_new c d i k p (omega (arith, le)) small, same, new, p) refl

pub second_new_after : (c d i : ℕ) → (d == c) ≡ false → i < 20 → has_name (d ∷ decimal i) (pair_names c d i ++ (c ∷ decimal i) ∷ []) ≡ false
second_new_after c d i p small =
    sym (has_append (d ∷ decimal i) (pair_names c d i) ((c ∷ decimal i) ∷ [])) ∙ rw (second_new c d i i p (omega arith) small, p) refl

-- each is a name
all_x : agree_below (λ i. is_name (120 ∷ decimal i)) (λ i. true) 20 ≡ true
unfolding is_name reserved_words digits
all_x = refl

all_n : agree_below (λ i. is_name (110 ∷ decimal i)) (λ i. true) 20 ≡ true
unfolding is_name reserved_words digits
all_n = refl

all_a : agree_below (λ i. is_name (97 ∷ decimal i)) (λ i. true) 20 ≡ true
unfolding is_name reserved_words digits
all_a = refl

all_b : agree_below (λ i. is_name (98 ∷ decimal i)) (λ i. true) 20 ≡ true
unfolding is_name reserved_words digits
all_b = refl

pub x_name : (i : ℕ) → i < 20 → is_name (120 ∷ decimal i) ≡ true
x_name i small = agree_below_at (λ i. is_name (120 ∷ decimal i)) (λ i. true) 20 i all_x small

pub n_name : (i : ℕ) → i < 20 → is_name (110 ∷ decimal i) ≡ true
n_name i small = agree_below_at (λ i. is_name (110 ∷ decimal i)) (λ i. true) 20 i all_n small

pub a_name : (i : ℕ) → i < 20 → is_name (97 ∷ decimal i) ≡ true
a_name i small = agree_below_at (λ i. is_name (97 ∷ decimal i)) (λ i. true) 20 i all_a small

pub b_name : (i : ℕ) → i < 20 → is_name (98 ∷ decimal i) ≡ true
b_name i small = agree_below_at (λ i. is_name (98 ∷ decimal i)) (λ i. true) 20 i all_b small
