-- The variables that occur, one more at a time, and that no one stands twice.
use Rattle.std.proofs.Common.{◌≡◌, ℕ, zero, suc, ◌+◌, ◌<◌, ◌≤◌, Bool, true, false, nat_eq, List, [], ◌∷◌, ◌++◌, length, refl, ap, ◌∙◌, arith, add-one, get_or, drop, drop-cons, length-append, append-nil}
use Rattle.std.specs.Prelude.{filter, if◌then◌else◌}
use Rattle.std.proofs.lemmas.List.{map-append}
use Rattle.std.proofs.lemmas.List.Elements.{filter-append}
use Rattle.block_tree.specs.Occurs.{occurs_within}
use Rattle.block_tree.specs.Tree.{Disjuncts}
use Rattle.hull_rewrite.specs.Copies.{occurring, place, up_to}
use Rattle.hull_rewrite.specs.Expanded.{listed_frame}

-- one number more
pub filter_more : (p : ℕ → Bool) (n : ℕ) → filter p (up_to (n + 1)) ≡ filter p (up_to n) ++ filter p (n ∷ [])
filter_more p n = rw add-one (filter-append p (up_to n) (n ∷ []))

kept_by : (t : Bool) (n : ℕ) → (if t then n ∷ [] else []) ≡ (if t then n ∷ [] else [])
kept_by t n = refl

pub occurs_more : (n : ℕ) (js : Disjuncts) → occurs_within n js ≡ true → occurring (n + 1) js ≡ occurring n js ++ n ∷ []
occurs_more n js e = filter_more (λ j. occurs_within j js) n ∙ ap (λ t. occurring n js ++ (if t then n ∷ [] else [])) e

pub occurs_not : (n : ℕ) (js : Disjuncts) → occurs_within n js ≡ false → occurring (n + 1) js ≡ occurring n js
occurs_not n js e = filter_more (λ j. occurs_within j js) n ∙ ap (λ t. occurring n js ++ (if t then n ∷ [] else [])) e ∙ append-nil (occurring n js)

pub listed_more : (n : ℕ) (f : ℕ → ℕ) → listed_frame (n + 1) f ≡ listed_frame n f ++ f n ∷ []
listed_more n f = rw add-one (map-append f (up_to n) (n ∷ []))

pub place_level : (vs : List ℕ) (i at j : ℕ) → i < length vs → place (drop i vs) at j ≡ (if nat_eq j (get_or vs i 0) then at else place (drop (i + 1) vs) (suc at) j)
place_level vs i at j h = rw (add-one, drop-cons vs i 0) refl

-- ---- what the list has: numbers below n, each once
abbrev pub AllBelow : ℕ → List ℕ → Type 0
AllBelow n [] = Unit {0}
AllBelow n (v ∷ vs) = (v < n) × AllBelow n vs

below-append : (n : ℕ) (xs ys : List ℕ) → AllBelow n xs → AllBelow n ys → AllBelow n (xs ++ ys)
below-append n [] ys a b = b
below-append n (x ∷ xs) ys a b = (a.0, below-append n xs ys a.1 b)

below_more : (n : ℕ) (xs : List ℕ) → AllBelow n xs → AllBelow (suc n) xs
below_more n [] a = tt
below_more n (x ∷ xs) a = (omega (arith, a.0), below_more n xs a.1)

pub up_to_below : (n : ℕ) → AllBelow n (up_to n)
up_to_below zero = tt
up_to_below (suc n) = below-append (suc n) (up_to n) (n ∷ []) (below_more n (up_to n) (up_to_below n)) (omega arith, tt)

filter_step : (t : Bool) (n x : ℕ) (xs : List ℕ) → x < n → AllBelow n xs → AllBelow n (if t then x ∷ xs else xs)
filter_step true n x xs h a = (h, a)
filter_step false n x xs h a = a

filter_below : (p : ℕ → Bool) (n : ℕ) (xs : List ℕ) → AllBelow n xs → AllBelow n (filter p xs)
filter_below p n [] a = tt
filter_below p n (x ∷ xs) a = filter_step (p x) n x (filter p xs) a.0 (filter_below p n xs a.1)

pub occurring_below : (n : ℕ) (js : Disjuncts) → AllBelow n (occurring n js)
occurring_below n js = filter_below (λ j. occurs_within j js) n (up_to n) (up_to_below n)

filter_step_short : (t : Bool) (x : ℕ) (xs ys : List ℕ) → length xs ≤ length ys → length (if t then x ∷ xs else xs) ≤ length (x ∷ ys)
filter_step_short true x xs ys h = omega arith
filter_step_short false x xs ys h = omega arith

filter_short : (p : ℕ → Bool) (xs : List ℕ) → length (filter p xs) ≤ length xs
filter_short p [] = omega arith
filter_short p (x ∷ xs) = filter_step_short (p x) x (filter p xs) xs (filter_short p xs)

pub up_to_length : (n : ℕ) → length (up_to n) ≡ n
up_to_length zero = refl
up_to_length (suc n) = length-append (up_to n) (n ∷ []) ∙ ap (λ k. k + 1) (up_to_length n) ∙ omega arith

pub occurring_short : (n : ℕ) (js : Disjuncts) → length (occurring n js) ≤ n
occurring_short n js = let h = filter_short (λ j. occurs_within j js) (up_to n) in let e = up_to_length n in omega arith
