-- The variables that occur are listed, each once, in ascending order.
use Rattle.std.proofs.Common.{◌≡◌, ℕ, zero, suc, ◌<◌, Bool, true, false, ◌&&◌, ◌||◌, nat_eq, nat_lt, List, [], ◌∷◌, ◌++◌, refl, ap, sym, ◌∙◌, arith}
use Rattle.std.specs.Prelude.{filter, if◌then◌else◌}
use Rattle.std.proofs.lemmas.Bool.Decides.{nat_tests}
use Rattle.block_tree.specs.Occurs.{occurs_within}
use Rattle.hull_rewrite.proofs.Ascending.{AllBelow, up_to_below}
use Rattle.hull_rewrite.specs.Copies.{occurring, up_to}
use Rattle.hull_rewrite.specs.Distinct.{AreAbove, Ascends, Distinct, OccurringAreListed, OccurringAscends, OccurringIsDistinct, stands_in}

-- ---- what stands in the list
nat_eq_is : (m n : ℕ) → nat_eq m n ≡ true → m ≡ n
nat_eq_is m n h = grind (arith, nat_tests)

stands_by : (t e : Bool) (p : ℕ → Bool) (j x : ℕ) (xs : List ℕ) → p x ≡ t → nat_eq j x ≡ e → stands_in j (filter p xs) ≡ (stands_in j xs && p j) →
    stands_in j (if t then x ∷ filter p xs else filter p xs) ≡ ((e || stands_in j xs) && p j)
stands_by true true p j x xs q e h = let k : p j ≡ true = ap p (nat_eq_is j x e) ∙ q in rw (e, k) refl
stands_by false true p j x xs q e h = let k : p j ≡ false = ap p (nat_eq_is j x e) ∙ q in rw k (h ∙ rw k (and_none (stands_in j xs)))
  where
    and_none : (t : Bool) → (t && false) ≡ false
    and_none true = refl
    and_none false = refl
stands_by true false p j x xs q e h = rw e h
stands_by false false p j x xs q e h = h

stands_filter : (p : ℕ → Bool) (j : ℕ) (xs : List ℕ) → stands_in j (filter p xs) ≡ (stands_in j xs && p j)
stands_filter p j [] = refl
stands_filter p j (x ∷ xs) = stands_by (p x) (nat_eq j x) p j x xs refl refl (stands_filter p j xs)

or_assoc : (a b c : Bool) → ((a || b) || c) ≡ (a || (b || c))
or_assoc true b c = refl
or_assoc false b c = refl

stands-append : (j : ℕ) (xs ys : List ℕ) → stands_in j (xs ++ ys) ≡ (stands_in j xs || stands_in j ys)
stands-append j [] ys = refl
stands-append j (x ∷ xs) ys = ap (λ t. nat_eq j x || t) (stands-append j xs ys) ∙ sym (or_assoc (nat_eq j x) (stands_in j xs) (stands_in j ys))

less_by : (a b d : Bool) (j n : ℕ) → nat_lt j n ≡ a → nat_eq j n ≡ b → nat_lt j (suc n) ≡ d → (a || (b || false)) ≡ d
less_by true b true j n p q r = refl
less_by true b false j n p q r = absurd (grind (arith, nat_tests))
less_by false true true j n p q r = refl
less_by false true false j n p q r = absurd (grind (arith, nat_tests))
less_by false false true j n p q r = absurd (grind (arith, nat_tests))
less_by false false false j n p q r = refl

none_less : (t : Bool) (j : ℕ) → nat_lt j zero ≡ t → false ≡ t
none_less true j e = absurd (grind (arith, nat_tests))
none_less false j e = refl

stands_up_to : (j n : ℕ) → stands_in j (up_to n) ≡ nat_lt j n
stands_up_to j zero = none_less (nat_lt j zero) j refl
stands_up_to j (suc n) = stands-append j (up_to n) (n ∷ []) ∙ ap (λ t. t || (nat_eq j n || false)) (stands_up_to j n) ∙ less_by (nat_lt j n) (nat_eq j n) (nat_lt j (suc n)) j n refl refl refl

pub occurring_are_listed : OccurringAreListed
occurring_are_listed n j js = stands_filter (λ i. occurs_within i js) j (up_to n) ∙ ap (λ t. t && occurs_within j js) (stands_up_to j n)

-- ---- it ascends
above-append : (n m : ℕ) (xs : List ℕ) → AreAbove n xs → n < m → AreAbove n (xs ++ m ∷ [])
above-append n m [] a h = (h, tt)
above-append n m (x ∷ xs) a h = (a.0, above-append n m xs a.1 h)

ascends-append : (n : ℕ) (xs : List ℕ) → AllBelow n xs → Ascends xs → Ascends (xs ++ n ∷ [])
ascends-append n [] b a = (tt, tt)
ascends-append n (x ∷ xs) b a = (above-append x n xs a.0 b.0, ascends-append n xs b.1 a.1)

up_to_ascends : (n : ℕ) → Ascends (up_to n)
up_to_ascends zero = tt
up_to_ascends (suc n) = ascends-append n (up_to n) (up_to_below n) (up_to_ascends n)

above_step : (t : Bool) (n x : ℕ) (xs : List ℕ) → n < x → AreAbove n xs → AreAbove n (if t then x ∷ xs else xs)
above_step true n x xs h a = (h, a)
above_step false n x xs h a = a

above_filter : (p : ℕ → Bool) (n : ℕ) (xs : List ℕ) → AreAbove n xs → AreAbove n (filter p xs)
above_filter p n [] a = tt
above_filter p n (x ∷ xs) a = above_step (p x) n x (filter p xs) a.0 (above_filter p n xs a.1)

ascends_step : (t : Bool) (x : ℕ) (xs : List ℕ) → AreAbove x xs → Ascends xs → Ascends (if t then x ∷ xs else xs)
ascends_step true x xs h a = (h, a)
ascends_step false x xs h a = a

ascends_filter : (p : ℕ → Bool) (xs : List ℕ) → Ascends xs → Ascends (filter p xs)
ascends_filter p [] a = tt
ascends_filter p (x ∷ xs) a = ascends_step (p x) x (filter p xs) (above_filter p x xs a.0) (ascends_filter p xs a.1)

pub occurring_ascends : OccurringAscends
occurring_ascends n js = ascends_filter (λ i. occurs_within i js) (up_to n) (up_to_ascends n)

-- ---- so no number stands twice
not_among_by : (t : Bool) (n x : ℕ) → nat_eq n x ≡ t → n < x → t ≡ false
not_among_by true n x e h = absurd (grind (arith, nat_tests))
not_among_by false n x e h = refl

not_among : (n : ℕ) (xs : List ℕ) → AreAbove n xs → stands_in n xs ≡ false
not_among n [] a = refl
not_among n (x ∷ xs) a = ap (λ t. t || stands_in n xs) (not_among_by (nat_eq n x) n x refl a.0) ∙ not_among n xs a.1

distinct : (xs : List ℕ) → Ascends xs → Distinct xs
distinct [] a = tt
distinct (x ∷ xs) a = (not_among x xs a.0, distinct xs a.1)

pub occurring_is_distinct : OccurringIsDistinct
occurring_is_distinct n js = distinct (occurring n js) (occurring_ascends n js)
