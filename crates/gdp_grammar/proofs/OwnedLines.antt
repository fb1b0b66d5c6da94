-- The lines that an owner has, one after the other.
use Rattle.std.proofs.Common.{◌≡◌, ℕ, zero, suc, ◌<◌, Bool, true, false, eqb, ◌&&◌, List, [], ◌∷◌, ◌++◌, Option, Some, None, refl, ap, sym, subst, ◌∙◌, ◌⊎◌, inl, inr, arith}
use Rattle.std.proofs.lemmas.Bool.Decides.{nat_tests}
use Rattle.gdp_grammar.specs.Nested.{StandsIn, Ascends, AreOwned}
use Rattle.gdp_grammar.specs.Stacks.{owner, same_owner, owned, OwnedFound}
use Rattle.gdp_grammar.specs.Owners.{LineKind, Kinds, IsOwner, IsNested}
use Rattle.text_grammar.proofs.Bools.{told}
use Rattle.gdp_grammar.proofs.Owned.{owner_found, one_owner}
use Rattle.gdp_grammar.proofs.Owning.{same_self, owned_other, owned_more}

-- one more at the end
stands_left : (k : ℕ) (xs ys : List ℕ) → StandsIn k xs → StandsIn k (xs ++ ys)
stands_left k [] ys s = absurd s
stands_left k (x ∷ xs) ys s = elim s [ inl e ↦ inl e | inr r ↦ inr (stands_left k xs ys r) ]

stands_last : (n : ℕ) (xs : List ℕ) → StandsIn n (xs ++ n ∷ [])
stands_last n [] = inl refl
stands_last n (x ∷ xs) = inr (stands_last n xs)

stands_push : (k n : ℕ) (xs : List ℕ) → StandsIn k (xs ++ n ∷ []) → StandsIn k xs ⊎ (n ≡ k)
stands_push k n [] s = elim s [ inl e ↦ inr e | inr none ↦ absurd none ]
stands_push k n (x ∷ xs) s = elim s [ inl e ↦ inl (inl e) | inr r ↦ elim (stands_push k n xs r) [ inl l ↦ inl (inr l) | inr e ↦ inr e ] ]

ascends_push : (n : ℕ) (xs : List ℕ) → Ascends xs → ((k : ℕ) → StandsIn k xs → k < n) → Ascends (xs ++ n ∷ [])
ascends_push n [] a below = ((λ k s. absurd s), tt)
ascends_push n (x ∷ xs) a below = (
  (λ k s. elim (stands_push k n xs s) [ inl l ↦ a.0 k l | inr e ↦ omega (arith, e, below x (inl refl)) ]),
  ascends_push n xs a.1 (λ k s. below k (inr s)),
)

-- the same owner
same_is : (o p : Option ℕ) → same_owner o p ≡ true → o ≡ p
same_is None None e = refl
same_is None (Some k) e = absurd (cc e)
same_is (Some j) None e = absurd (cc e)
same_is (Some j) (Some k) e =
    let numbers : eqb j k ≡ true = e in
    let is : j ≡ k = grind (arith, nat_tests) in
    ap (λ (x : ℕ). some_of x) is
  where
    some_of : ℕ → Option ℕ
    some_of x = Some x

both : (a b : Bool) → (a && b) ≡ true → (a ≡ true) × (b ≡ true)
both true b e = (refl, e)
both false b e = absurd (cc e)

last_or_before : (k n : ℕ) → k < suc n → (k < n) ⊎ (n ≡ k)
last_or_before zero zero within = inr refl
last_or_before zero (suc n) within = inl (omega arith)
last_or_before (suc k) zero within = absurd (omega (arith, within))
last_or_before (suc k) (suc n) within = elim (last_or_before k n (omega (arith, within))) [ inl l ↦ inl (omega (arith, l)) | inr e ↦ inr (omega (arith, e)) ]

-- a line that is owned comes to those before it
one_more : (kinds : Kinds) (test : LineKind → Bool) (o : Option ℕ) (n : ℕ) (xs : List ℕ) → (test (kinds n) && same_owner o (owner kinds n)) ≡ true → IsOwner kinds n (owner kinds n)
    → AreOwned kinds test o n xs → AreOwned kinds test o (suc n) (xs ++ n ∷ [])
one_more kinds test o n xs e found below =
    let parts = both (test (kinds n)) (same_owner o (owner kinds n)) e in
    record {
      in_order = ascends_push n xs below.in_order (λ k s. (below.each_owned k s).0);
      each_owned = λ k s. at k (stands_push k n xs s);
      each_there = λ k within passes is. elim (last_or_before k n within) [
        | inl l ↦ stands_left k xs (n ∷ []) (below.each_there k l passes is)
        | inr same ↦ subst (λ (x : ℕ). StandsIn x (xs ++ n ∷ [])) same (stands_last n xs)
      ];
    }
  where
    whose : IsOwner kinds n o
    whose = subst (λ (p : Option ℕ). IsOwner kinds n p) (sym (same_is o (owner kinds n) (both (test (kinds n)) (same_owner o (owner kinds n)) e).1)) found

    at : (k : ℕ) → StandsIn k xs ⊎ (n ≡ k) → (k < suc n) × (test (kinds k) ≡ true) × IsOwner kinds k o
    at k (inl s) = let b = below.each_owned k s in (omega (arith, b.0), b.1, b.2)
    at k (inr same) = (omega (arith, same), ap (λ (x : ℕ). test (kinds x)) (sym same) ∙ (both (test (kinds n)) (same_owner o (owner kinds n)) e).0, subst (λ (x : ℕ). IsOwner kinds x o) same whose)

-- a line that is not owned changes nothing
no_more : (kinds : Kinds) (test : LineKind → Bool) (o : Option ℕ) (n : ℕ) (xs : List ℕ) → (test (kinds n) && same_owner o (owner kinds n)) ≡ false → IsOwner kinds n (owner kinds n)
    → AreOwned kinds test o n xs → AreOwned kinds test o (suc n) xs
no_more kinds test o n xs e found below = record {
  in_order = below.in_order;
  each_owned = λ k s. let b = below.each_owned k s in (omega (arith, b.0), b.1, b.2);
  each_there = λ k within passes is. elim (last_or_before k n within) [
    | inl l ↦ below.each_there k l passes is
    | inr same ↦ absurd (not_here k same passes is)
  ];
}
  where
    not_here : (k : ℕ) → n ≡ k → test (kinds k) ≡ true → IsOwner kinds k o → ⊥
    not_here k same passes is =
        let here : IsOwner kinds n o = subst (λ (x : ℕ). IsOwner kinds x o) (sym same) is in
        let one : o ≡ owner kinds n = one_owner kinds n o (owner kinds n) here found in
        let owns : same_owner o (owner kinds n) ≡ true = ap (λ (p : Option ℕ). same_owner o p) (sym one) ∙ same_self o in
        let test_is : test (kinds n) ≡ true = ap (λ (x : ℕ). test (kinds x)) same ∙ passes in
        let holds : (test (kinds n) && same_owner o (owner kinds n)) ≡ true = ap (λ (b : Bool). b && same_owner o (owner kinds n)) test_is ∙ owns in
        absurd (cc (e, holds))

pub owned_found : OwnedFound
unfolding owned
owned_found kinds test o zero nested = record { in_order = tt; each_owned = λ k s. absurd s; each_there = λ k within passes is. absurd (omega (arith, within)) }
owned_found kinds test o (suc n) nested =
    let before : IsNested kinds n = λ k within is. nested k (omega (arith, within)) is in
    let below = owned_found kinds test o n before in
    let found = owner_found kinds n before in
    elim (told (test (kinds n) && same_owner o (owner kinds n))) [
      | inl e ↦ subst (λ (xs : List ℕ). AreOwned kinds test o (suc n) xs) (sym (owned_more kinds test o n e)) (one_more kinds test o n (owned kinds test o n) e found below)
      | inr e ↦ subst (λ (xs : List ℕ). AreOwned kinds test o (suc n) xs) (sym (owned_other kinds test o n e)) (no_more kinds test o n (owned kinds test o n) e found below)
    ]
