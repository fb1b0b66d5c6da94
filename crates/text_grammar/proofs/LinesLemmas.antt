-- The first line of a text, by the first newline.
use Rattle.std.proofs.Common.{◌≡◌, ◌≢◌, ℕ, zero, suc, ◌<◌, true, false, eqb, ◌&&◌, not, List, [], ◌∷◌, length, get_or, take, inl, inr, refl, ap, sym, ◌∙◌, arith}
use Rattle.std.proofs.lemmas.Bool.Decides.{nat_tests}
use Rattle.std.proofs.lemmas.Bool.{cond-true, cond-false}
use Rattle.text_grammar.specs.Bytes.{is_inline, front, rest}
use Rattle.text_grammar.proofs.Bools.{told}
use Rattle.text_grammar.specs.Lines.{lines_of, newline_next, onto_first, without_return}

-- the front and the rest at a newline, and at another byte
pub front_newline : (b : ℕ) (bs : List ℕ) → eqb b 10 ≡ true → front is_inline (b ∷ bs) ≡ []
front_newline b bs e = cond-false (not (eqb b 10)) _ _ (ap not e)

pub front_other : (b : ℕ) (bs : List ℕ) → eqb b 10 ≡ false → front is_inline (b ∷ bs) ≡ b ∷ front is_inline bs
front_other b bs e = cond-true (not (eqb b 10)) _ _ (ap not e)

pub rest_newline : (b : ℕ) (bs : List ℕ) → eqb b 10 ≡ true → rest is_inline (b ∷ bs) ≡ b ∷ bs
rest_newline b bs e = cond-false (not (eqb b 10)) _ _ (ap not e)

pub rest_other : (b : ℕ) (bs : List ℕ) → eqb b 10 ≡ false → rest is_inline (b ∷ bs) ≡ rest is_inline bs
rest_other b bs e = cond-true (not (eqb b 10)) _ _ (ap not e)

pub lines_newline : (b : ℕ) (bs : List ℕ) → eqb b 10 ≡ true → lines_of (b ∷ bs) ≡ [] ∷ lines_of bs
lines_newline b bs e = cond-true (eqb b 10) _ _ e

pub lines_return : (b : ℕ) (bs : List ℕ) → eqb b 10 ≡ false → (newline_next bs && eqb b 13) ≡ true → lines_of (b ∷ bs) ≡ lines_of bs
lines_return b bs e r = cond-false (eqb b 10) _ _ e ∙ cond-true (newline_next bs && eqb b 13) _ _ r

pub lines_other : (b : ℕ) (bs : List ℕ) → eqb b 10 ≡ false → (newline_next bs && eqb b 13) ≡ false → lines_of (b ∷ bs) ≡ onto_first b (lines_of bs)
lines_other b bs e r = cond-false (eqb b 10) _ _ e ∙ cond-false (newline_next bs && eqb b 13) _ _ r

last_at : (b c : ℕ) (cs : List ℕ) → rest is_inline (b ∷ c ∷ cs) ≡ [] → (rest is_inline (c ∷ cs) ≡ [] → lines_of (c ∷ cs) ≡ front is_inline (c ∷ cs) ∷ []) → lines_of (b ∷ c ∷ cs) ≡ front is_inline (b ∷ c ∷ cs) ∷ []
last_at b c cs none below = elim (told (eqb b 10)) [
  | inl e ↦ absurd (cc (none, rest_newline b (c ∷ cs) e))
  | inr e ↦
      let left : rest is_inline (c ∷ cs) ≡ [] = sym (rest_other b (c ∷ cs) e) ∙ none in
      elim (told (eqb c 10)) [
        | inl n ↦ absurd (cc (left, rest_newline c cs n))
        | inr n ↦ lines_other b (c ∷ cs) e (ap (λ x. x && eqb b 13) n) ∙ ap (onto_first b) (below left) ∙ ap (λ l. l ∷ []) (sym (front_other b (c ∷ cs) e))
      ]
]

-- a text without a newline has itself as its only line
pub last_line : (b : ℕ) (bs : List ℕ) → rest is_inline (b ∷ bs) ≡ [] → lines_of (b ∷ bs) ≡ front is_inline (b ∷ bs) ∷ []
last_line b [] none = elim (told (eqb b 10)) [
  | inl e ↦ absurd (cc (none, rest_newline b [] e))
  | inr e ↦ lines_other b [] e refl ∙ ap (λ f. f ∷ []) (sym (front_other b [] e))
]
last_line b (c ∷ cs) none = last_at b c cs none (last_line c cs)

-- a byte before a newline
return_at : (b c : ℕ) (cs : List ℕ) → eqb b 10 ≡ false → eqb c 10 ≡ true → lines_of (b ∷ c ∷ cs) ≡ without_return (b ∷ []) ∷ lines_of cs
return_at b c cs e n = elim (told (eqb b 13)) [
  | inl r ↦ lines_return b (c ∷ cs) e (ap (λ x. x && eqb b 13) n ∙ r) ∙ lines_newline c cs n ∙ ap (λ l. l ∷ lines_of cs) (sym (cond-true (eqb b 13) _ _ r))
  | inr r ↦ lines_other b (c ∷ cs) e (ap (λ x. x && eqb b 13) n ∙ r) ∙ ap (onto_first b) (lines_newline c cs n) ∙ ap (λ l. l ∷ lines_of cs) (sym (cond-false (eqb b 13) _ _ r))
]

first_at : (b c : ℕ) (cs : List ℕ) (newline : ℕ) (after : List ℕ) → rest is_inline (b ∷ c ∷ cs) ≡ newline ∷ after
    → (rest is_inline (c ∷ cs) ≡ newline ∷ after → lines_of (c ∷ cs) ≡ without_return (front is_inline (c ∷ cs)) ∷ lines_of after)
    → lines_of (b ∷ c ∷ cs) ≡ without_return (front is_inline (b ∷ c ∷ cs)) ∷ lines_of after
first_at b c cs newline after is below = elim (told (eqb b 10)) [
  | inl e ↦
      let tail : c ∷ cs ≡ after = cc (is, rest_newline b (c ∷ cs) e) in
      lines_newline b (c ∷ cs) e ∙ ap (λ l. [] ∷ lines_of l) tail ∙ ap (λ l. without_return l ∷ lines_of after) (sym (front_newline b (c ∷ cs) e))
  | inr e ↦
      let left : rest is_inline (c ∷ cs) ≡ newline ∷ after = sym (rest_other b (c ∷ cs) e) ∙ is in
      elim (told (eqb c 10)) [
        | inl n ↦
            let tail : cs ≡ after = cc (left, rest_newline c cs n) in
            let cut : front is_inline (b ∷ c ∷ cs) ≡ b ∷ [] = front_other b (c ∷ cs) e ∙ ap (λ l. b ∷ l) (front_newline c cs n) in
            return_at b c cs e n ∙ ap (λ l. without_return (b ∷ []) ∷ lines_of l) tail ∙ ap (λ l. without_return l ∷ lines_of after) (sym cut)
        | inr n ↦
            let cut : front is_inline (c ∷ cs) ≡ c ∷ front is_inline cs = front_other c cs n in
            lines_other b (c ∷ cs) e (ap (λ x. x && eqb b 13) n) ∙ ap (onto_first b) (below left)
            ∙ ap (λ l. (b ∷ without_return l) ∷ lines_of after) cut
            ∙ ap (λ l. without_return l ∷ lines_of after) (sym (front_other b (c ∷ cs) e ∙ ap (λ l. b ∷ l) cut))
      ]
]

-- what stands before the first newline is the first line, but for a carriage return at its end
pub first_line : (text : List ℕ) (newline : ℕ) (after : List ℕ) → rest is_inline text ≡ newline ∷ after → lines_of text ≡ without_return (front is_inline text) ∷ lines_of after
first_line [] newline after is = absurd (cc is)
first_line (b ∷ []) newline after is = elim (told (eqb b 10)) [
  | inl e ↦
      let tail : [] ≡ after = cc (is, rest_newline b [] e) in
      lines_newline b [] e ∙ ap (λ l. [] ∷ lines_of l) tail ∙ ap (λ l. without_return l ∷ lines_of after) (sym (front_newline b [] e))
  | inr e ↦ absurd (cc (is, rest_other b [] e))
]
first_line (b ∷ c ∷ cs) newline after is = first_at b c cs newline after is (first_line (c ∷ cs) newline after)

-- a last byte that is a carriage return is taken off, and no other
pub without_return_is : (line : List ℕ) (last : ℕ) → length line ≡ suc last → (get_or line last 0 ≡ 13 → without_return line ≡ take last line) × (get_or line last 0 ≢ 13 → without_return line ≡ line)
without_return_is [] last some = absurd (omega (arith, some))
without_return_is (b ∷ []) zero some = (λ is. cond-true (eqb b 13) _ _ (grind (arith, nat_tests)), λ other. cond-false (eqb b 13) _ _ (grind (arith, nat_tests)))
without_return_is (b ∷ []) (suc last) some = absurd (omega (arith, some))
without_return_is (b ∷ c ∷ cs) zero some = absurd (omega (arith, some))
without_return_is (b ∷ c ∷ cs) (suc last) some =
    let below = without_return_is (c ∷ cs) last (omega (arith, some)) in
    ((λ is. ap (λ l. b ∷ l) (below.0 is)), (λ other. ap (λ l. b ∷ l) (below.1 other)))

-- a text that isn't empty has a line
pub some_line : (text : List ℕ) → 0 < length text → (line : List ℕ) × (lines : List (List ℕ)) × (lines_of text ≡ line ∷ lines)
some_line [] some = absurd (omega (arith, some))
some_line (b ∷ bs) some = go (rest is_inline (b ∷ bs)) refl
  where
    go : (after : List ℕ) → rest is_inline (b ∷ bs) ≡ after → (line : List ℕ) × (lines : List (List ℕ)) × (lines_of (b ∷ bs) ≡ line ∷ lines)
    go [] e = (front is_inline (b ∷ bs), [], last_line b bs e)
    go (n ∷ after) e = (without_return (front is_inline (b ∷ bs)), lines_of after, first_line (b ∷ bs) n after e)
