-- When a number stands twice in a list that grows at its end.
use Rattle.std.proofs.Common.{◌≡◌, ℕ, Bool, true, false, eqb, ◌||◌, List, [], ◌∷◌, ◌++◌, Option, Some, None, refl, ap, sym, ◌∙◌, arith}
use Rattle.std.proofs.lemmas.Bool.Decides.{nat_tests}
use Rattle.gdp_grammar.specs.Reading.{stands_in, has_twice}

or_assoc : (a b c : Bool) → (a || b || c) ≡ (a || (b || c))
or_assoc true b c = refl
or_assoc false b c = refl

or_true : (a : Bool) → (a || true) ≡ true
or_true true = refl
or_true false = refl

pub stands_push : (k id : ℕ) (xs : List (Option ℕ)) → stands_in k (xs ++ Some id ∷ []) ≡ (stands_in k xs || eqb k id)
stands_push k id [] = or_false (eqb k id)
  where
    or_false : (b : Bool) → (b || false) ≡ b
    or_false true = refl
    or_false false = refl
stands_push k id (None ∷ xs) = stands_push k id xs
stands_push k id (Some other ∷ xs) = ap (λ b. eqb k other || b) (stands_push k id xs) ∙ sym (or_assoc (eqb k other) (stands_in k xs) (eqb k id))

pub stands_push_none : (k : ℕ) (xs : List (Option ℕ)) → stands_in k (xs ++ None ∷ []) ≡ stands_in k xs
stands_push_none k [] = refl
stands_push_none k (None ∷ xs) = stands_push_none k xs
stands_push_none k (Some other ∷ xs) = ap (λ b. eqb k other || b) (stands_push_none k xs)

shuffled : (p q r s : Bool) → ((p || q) || (r || s)) ≡ ((p || r) || (q || s))
shuffled true q r s = refl
shuffled false true true s = refl
shuffled false true false s = refl
shuffled false false r s = refl

eqb_swap : (a b : ℕ) → eqb a b ≡ eqb b a
eqb_swap a b = grind (arith, nat_tests)

pub twice_push : (id : ℕ) (xs : List (Option ℕ)) → has_twice (xs ++ Some id ∷ []) ≡ (has_twice xs || stands_in id xs)
twice_push id [] = refl
twice_push id (None ∷ xs) = twice_push id xs
twice_push id (Some a ∷ xs) =
    ap (λ b. b || has_twice (xs ++ Some id ∷ [])) (stands_push a id xs)
    ∙ ap (λ b. (stands_in a xs || eqb a id) || b) (twice_push id xs)
    ∙ shuffled (stands_in a xs) (eqb a id) (has_twice xs) (stands_in id xs)
    ∙ ap (λ b. (stands_in a xs || has_twice xs) || (b || stands_in id xs)) (eqb_swap a id)

pub twice_push_none : (xs : List (Option ℕ)) → has_twice (xs ++ None ∷ []) ≡ has_twice xs
twice_push_none [] = refl
twice_push_none (None ∷ xs) = twice_push_none xs
twice_push_none (Some a ∷ xs) = ap (λ b. b || has_twice (xs ++ None ∷ [])) (stands_push_none a xs) ∙ ap (λ b. stands_in a xs || b) (twice_push_none xs)

either_true : (p q p' q' : Bool) → (p ≡ true → p' ≡ true) → (q ≡ true → q' ≡ true) → (p || q) ≡ true → (p' || q') ≡ true
either_true true q p' q' f g e = ap (λ b. b || q') (f refl)
either_true false q p' q' f g e = ap (λ b. p' || b) (g e) ∙ or_true p'

stands_more : (k : ℕ) (xs ys : List (Option ℕ)) → stands_in k xs ≡ true → stands_in k (xs ++ ys) ≡ true
stands_more k [] ys e = absurd (cc e)
stands_more k (None ∷ xs) ys e = stands_more k xs ys e
stands_more k (Some other ∷ xs) ys e = either_true (eqb k other) (stands_in k xs) (eqb k other) (stands_in k (xs ++ ys)) (λ b. b) (stands_more k xs ys) e

-- what stands twice stands twice in every longer list
pub twice_more : (xs ys : List (Option ℕ)) → has_twice xs ≡ true → has_twice (xs ++ ys) ≡ true
twice_more [] ys e = absurd (cc e)
twice_more (None ∷ xs) ys e = twice_more xs ys e
twice_more (Some a ∷ xs) ys e = either_true (stands_in a xs) (has_twice xs) (stands_in a (xs ++ ys)) (has_twice (xs ++ ys)) (stands_more a xs ys) (twice_more xs ys) e
