-- The front of a text, where it is followed by what stops it.
use Rattle.std.proofs.Common.{◌≡◌, ℕ, ◌≤◌, Bool, true, false, if◌then◌else◌, List, [], ◌∷◌, ◌++◌, length, refl, ap, sym, ◌∙◌, inl, inr, arith}
use Rattle.std.specs.List.{list_all}
use Rattle.std.proofs.lemmas.Bool.{cond-true, cond-false}
use Rattle.text_grammar.specs.Bytes.{front, rest}
use Rattle.text_grammar.proofs.Bools.{told, both, and_true}

-- what follows meets the test no more
abbrev pub Stops : (ℕ → Bool) → List ℕ → Type 0
Stops test [] = Unit {0}
Stops test (b ∷ bs) = test b ≡ false

pub front_again : (test : ℕ → Bool) (w after : List ℕ) → list_all test w ≡ true → Stops test after → front test (w ++ after) ≡ w
front_again test [] [] p s = refl
front_again test [] (b ∷ bs) p s = cond-false (test b) _ _ s
front_again test (b ∷ bs) after p s =
    let h = both (test b) (list_all test bs) p in
    cond-true (test b) _ _ h.0 ∙ ap (λ l. b ∷ l) (front_again test bs after h.1 s)

pub rest_again : (test : ℕ → Bool) (w after : List ℕ) → list_all test w ≡ true → Stops test after → rest test (w ++ after) ≡ after
rest_again test [] [] p s = refl
rest_again test [] (b ∷ bs) p s = cond-false (test b) _ _ s
rest_again test (b ∷ bs) after p s =
    let h = both (test b) (list_all test bs) p in
    cond-true (test b) _ _ h.0 ∙ rest_again test bs after h.1 s

-- what follows the front is no longer than the text
pub rest_shorter : (test : ℕ → Bool) (bs : List ℕ) → length (rest test bs) ≤ length bs
rest_shorter test [] = omega arith
rest_shorter test (b ∷ bs) = elim (told (test b)) [
  | inl e ↦ omega (arith, ap length (cond-true (test b) (rest test bs) (b ∷ bs) e), rest_shorter test bs)
  | inr e ↦ omega (arith, ap length (cond-false (test b) (rest test bs) (b ∷ bs) e))
]

-- and shorter, where the first byte meets the test
pub rest_within : (test : ℕ → Bool) (b : ℕ) (bs : List ℕ) → test b ≡ true → length (rest test (b ∷ bs)) ≤ length bs
rest_within test b bs holds = omega (arith, ap length (cond-true (test b) (rest test bs) (b ∷ bs) holds), rest_shorter test bs)

pub choice_shorter : {A : Type 0} (b : Bool) (x y : A × List ℕ) (n : ℕ) → (b ≡ true → length x.1 ≤ n) → (b ≡ false → length y.1 ≤ n) → length (if b then x else y).1 ≤ n
choice_shorter true x y n p q = p refl
choice_shorter false x y n p q = q refl

-- what follows the front begins with no byte of it
pub rest_begins : (test : ℕ → Bool) (bytes : List ℕ) (b : ℕ) (bs : List ℕ) → rest test bytes ≡ b ∷ bs → test b ≡ false
rest_begins test [] b bs e = absurd (cc e)
rest_begins test (c ∷ cs) b bs e = elim (told (test c)) [
  | inl t ↦ rest_begins test cs b bs (sym (cond-true (test c) _ _ t) ∙ e)
  | inr f ↦
      let same : c ∷ cs ≡ b ∷ bs = sym (cond-false (test c) _ _ f) ∙ e in
      let first : c ≡ b = cc same in
      ap test (sym first) ∙ f
]

-- the bytes at the front meet the test
pub front_all : (test : ℕ → Bool) (bytes : List ℕ) → list_all test (front test bytes) ≡ true
front_all test [] = refl
front_all test (b ∷ bs) = elim (told (test b)) [
  | inl e ↦ ap (list_all test) (cond-true (test b) (b ∷ front test bs) [] e) ∙ and_true (test b) (list_all test (front test bs)) e (front_all test bs)
  | inr e ↦ ap (list_all test) (cond-false (test b) (b ∷ front test bs) [] e)
]
