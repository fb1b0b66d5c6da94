-- Digits that stand far before a point.
use Rattle.std.proofs.Common.{◌≡◌, ℕ, zero, suc, ◌+◌, ◌-◌, ◌*◌, ◌^◌, ◌<◌, ◌≤◌, Bool, true, false, ◌||◌, not, ◌==◌, List, [], ◌∷◌, ◌++◌, length, take, refl, ap, sym, ◌∙◌, inl, inr, ◌⊎◌, length-append, arith}
use Rattle.std.specs.Prelude.{nat_le}
use Rattle.std.specs.List.{list_any}
use Rattle.std.proofs.lemmas.Bool.{cond-true, cond-false}
use Rattle.std.proofs.lemmas.Bool.Decides.{nat_tests}
use Rattle.text_grammar.specs.Digits.{value_after}
use Rattle.text_grammar.proofs.Bools.{told}
use Rattle.lp_tokens.specs.Far.{capped, far_of}

pub capped_small : (n : ℕ) → n ≤ 2 ^ 100 → capped n ≡ n
capped_small n h = cond-true (nat_le n (2 ^ 100)) n (2 ^ 100) (grind (arith, nat_tests))

pub capped_great : (n : ℕ) → 2 ^ 100 ≤ n → capped n ≡ 2 ^ 100
capped_great n h = elim (told (nat_le n (2 ^ 100))) [
  | inl t ↦ cond-true (nat_le n (2 ^ 100)) n (2 ^ 100) t ∙ least n h t
  | inr f ↦ cond-false (nat_le n (2 ^ 100)) n (2 ^ 100) f
]
  where
    least : (n : ℕ) → 2 ^ 100 ≤ n → nat_le n (2 ^ 100) ≡ true → n ≡ 2 ^ 100
    least n h t = grind (arith, nat_tests)

either : (n : ℕ) → (n ≤ 2 ^ 100) ⊎ (2 ^ 100 ≤ n)
either n = elim (told (nat_le n (2 ^ 100))) [ inl t ↦ inl (less n t) | inr f ↦ inr (more n f) ]
  where
    less : (n : ℕ) → nat_le n (2 ^ 100) ≡ true → n ≤ 2 ^ 100
    less n t = grind (arith, nat_tests)

    more : (n : ℕ) → nat_le n (2 ^ 100) ≡ false → 2 ^ 100 ≤ n
    more n t = grind (arith, nat_tests)

capped_more : (v d : ℕ) → capped (capped v * 10 + d) ≡ capped (v * 10 + d)
capped_more v d = elim (either v) [
  | inl h ↦ ap (λ (n : ℕ). capped (n * 10 + d)) (capped_small v h)
  | inr h ↦ ap (λ (n : ℕ). capped (n * 10 + d)) (capped_great v h) ∙ capped_great (2 ^ 100 * 10 + d) (omega arith) ∙ sym (capped_great (v * 10 + d) (omega (arith, h)))
]

-- digits behind numbers that are the same but for what is cut off
pub capped_after : (w v : ℕ) (ds : List ℕ) → capped w ≡ capped v → capped (value_after w ds) ≡ capped (value_after v ds)
capped_after w v [] e = e
capped_after w v (d ∷ ds) e =
    capped_after (w * 10 + (d - 48)) (v * 10 + (d - 48)) ds (sym (capped_more w (d - 48)) ∙ ap (λ (n : ℕ). capped (n * 10 + (d - 48))) e ∙ capped_more v (d - 48))

pub capped_twice : (v : ℕ) → capped (capped v) ≡ capped v
capped_twice v = elim (either v) [ inl h ↦ ap capped (capped_small v h) | inr h ↦ ap capped (capped_great v h) ∙ capped_great (2 ^ 100) (omega arith) ∙ sym (capped_great v h) ]

-- all of a list
pub take_all : {A : Type 0} (n : ℕ) (xs : List A) → length xs ≤ n → take n xs ≡ xs
take_all n [] h = none n
  where
    none : {A : Type 0} (n : ℕ) → take {A = A} n [] ≡ []
    none zero = refl
    none (suc n) = refl
take_all zero (x ∷ xs) h = absurd (omega (arith, h))
take_all {A} (suc n) (x ∷ xs) h = ap (λ (l : List A). x ∷ l) (take_all n xs (omega (arith, h)))

pub same_take : {A : Type 0} (n m : ℕ) (xs : List A) → length xs ≤ n → length xs ≤ m → take n xs ≡ take m xs
same_take n m xs p q = take_all n xs p ∙ sym (take_all m xs q)

-- the first of two lists
any_both : (test : ℕ → Bool) (n : ℕ) (xs ys : List ℕ) → list_any test (take n (xs ++ ys)) ≡ (list_any test (take n xs) || list_any test (take (n - length xs) ys))
any_both test n [] ys = ap (λ (m : ℕ). list_any test (take m ys)) (omega arith) ∙ ap (λ (l : List ℕ). list_any test l || list_any test (take (n - 0) ys)) (sym (none n))
  where
    none : (n : ℕ) → take {A = ℕ} n [] ≡ []
    none zero = refl
    none (suc n) = refl
any_both test zero (x ∷ xs) ys = ap (λ (m : ℕ). list_any test (take m ys)) (nothing (length xs))
  where
    nothing : (k : ℕ) → 0 ≡ 0 - suc k
    nothing k = omega arith
any_both test (suc n) (x ∷ xs) ys =
    ap (λ (b : Bool). test x || b) (any_both test n xs ys) ∙ later (test x) (list_any test (take n xs)) (list_any test (take (n - length xs) ys))
    ∙ ap (λ (m : ℕ). (test x || list_any test (take n xs)) || list_any test (take m ys)) (less n (length xs))
  where
    later : (a b c : Bool) → (a || (b || c)) ≡ ((a || b) || c)
    later true b c = refl
    later false b c = refl

    less : (n k : ℕ) → n - k ≡ suc n - suc k
    less n k = omega arith

-- what is cut off of an exponent changes nothing
far_same : (is_negative : Bool) (v : ℕ) (ds ps : List ℕ) → length ds < 2 ^ 64 → length ps < 2 ^ 64
    → take (far_of is_negative (length ds) (capped v)) (ds ++ ps) ≡ take (far_of is_negative (length ds) v) (ds ++ ps)
far_same is_negative v ds ps p q = elim (either v) [
  | inl h ↦ ap (λ (n : ℕ). take (far_of is_negative (length ds) n) (ds ++ ps)) (capped_small v h)
  | inr h ↦ ap (λ (n : ℕ). take (far_of is_negative (length ds) n) (ds ++ ps)) (capped_great v h) ∙ go is_negative h
]
  where
    go : (b : Bool) → 2 ^ 100 ≤ v → take (far_of b (length ds) (2 ^ 100)) (ds ++ ps) ≡ take (far_of b (length ds) v) (ds ++ ps)
    go true h = ap (λ (n : ℕ). take n (ds ++ ps)) (omega (arith, h, p))
    go false h = same_take _ _ (ds ++ ps) (omega (arith, length-append ds ps, p, q)) (omega (arith, length-append ds ps, p, q, h))

pub huge_told : (is_negative : Bool) (v m count rest : ℕ) (ds ps : List ℕ) (a b : Bool) → m ≡ capped v → count ≡ far_of is_negative (length ds) m → rest ≡ count - length ds
    → length ds < 2 ^ 64 → length ps < 2 ^ 64
    → a ≡ list_any (λ d. not (d == 48)) (take count ds) → b ≡ list_any (λ d. not (d == 48)) (take rest ps)
    → (a || b) ≡ list_any (λ d. not (d == 48)) (take (far_of is_negative (length ds) v) (ds ++ ps))
huge_told is_negative v m count rest ds ps a b e f g p q x y =
    ap (λ (z : Bool). z || b) x ∙ ap (λ (z : Bool). list_any (λ d. not (d == 48)) (take count ds) || z) (y ∙ ap (λ (n : ℕ). list_any (λ d. not (d == 48)) (take n ps)) g)
    ∙ sym (any_both (λ d. not (d == 48)) count ds ps)
    ∙ ap (λ (n : ℕ). list_any (λ d. not (d == 48)) (take n (ds ++ ps))) (f ∙ ap (far_of is_negative (length ds)) e)
    ∙ ap (λ (l : List ℕ). list_any (λ d. not (d == 48)) l) (far_same is_negative v ds ps p q)
