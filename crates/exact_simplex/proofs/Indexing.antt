-- An index through an exchange.
use Rattle.std.proofs.Common.{◌≡◌, ◌<◌, ◌≤◌, ◌*◌, ℕ, ℤ, pos, ◌*ℤ◌, ◌-ℤ◌, ◌<ℤ◌, ◌==◌, Bool, true, false, cond, List, length, arith, refl, ap, sym, ◌∙◌, subst, inl, inr}
use Rattle.std.proofs.lemmas.Bool.{cases_eq}
use Rattle.std.proofs.lemmas.Int.{ints}
use Rattle.std.proofs.lemmas.Nat.{row_fits}
use lib.IntN.{*ℤ_comm}
use Rattle.int_linear.proofs.Ring.{zero_factor, mul_zero, zero_mul}
use Rattle.simplex_rows.specs.Dropped.{without}
use Rattle.simplex_rows.specs.Steps.{IsCleared}
use Rattle.simplex_rows.specs.Index.{bit_of, HasColumns, IsIndexOf, IsIndexAfter}
use Rattle.simplex_rows.specs.Tableau.{IsExchange}
use Rattle.simplex_rows.proofs.Columns.{zero_or}
use Rattle.exact_simplex.specs.Table.{kept}

-- of fewer columns
pub index_below : (m n r words : ℕ) (rows : ℕ → ℕ → ℤ) (index : List ℕ) → m ≤ n → IsIndexOf n r words rows index → IsIndexOf m r words rows index
index_below m n r words rows index l h = record {
  columns = record { each = λ j p. h.columns.each j (omega arith) };
  within = h.within;
  some = λ i j p q d. h.some i j p (omega arith) d;
}

-- as many words as all columns want
pub columns_fit : (n words : ℕ) (index : List ℕ) → length index ≡ n * words → HasColumns n words index
columns_fit n words index e = record { each = λ j l. let f = row_fits j words n words l (omega arith) in omega arith }

kept_zero : (drops : Bool) (gone : ℕ) (rows : ℕ → ℕ → ℤ) (i j : ℕ) → rows i j ≡ pos 0 → kept drops gone rows i j ≡ pos 0
kept_zero true gone rows i j e = elim (cases_eq j gone) as (λ _. without gone (rows i) j ≡ pos 0) [
  | inl q ↦ both (j == gone) (rows i j) e
  | inr d ↦ both (j == gone) (rows i j) e
]
  where
    both : (b : Bool) (z : ℤ) → z ≡ pos 0 → cond b (pos 0) z ≡ pos 0
    both true z h = refl
    both false z h = h
kept_zero false gone rows i j e = e

-- a cleared row has an entry only where it or the pivot row had one
cleared_zero : (n enter j : ℕ) (before pivot now : ℕ → ℤ) → IsCleared n enter before pivot now → j < n → before j ≡ pos 0 → pivot j ≡ pos 0 → now j ≡ pos 0
cleared_zero n enter j before pivot now c l e f =
    let step : c.divisor *ℤ now j ≡ c.factor *ℤ before j -ℤ c.pivot_factor *ℤ pivot j = c.step.each j l in
    let left : c.factor *ℤ before j ≡ pos 0 = ap (λ z. c.factor *ℤ z) e ∙ mul_zero c.factor in
    let right : c.pivot_factor *ℤ pivot j ≡ pos 0 = ap (λ z. c.pivot_factor *ℤ z) f ∙ mul_zero c.pivot_factor in
    zero_factor c.divisor (now j) c.step.divided (omega (arith, ints))

-- and one with 0 in the entering column only where it had one
untouched_zero : (n enter j : ℕ) (before pivot now : ℕ → ℤ) → IsCleared n enter before pivot now → enter < n → pos 0 <ℤ pivot enter → before enter ≡ pos 0 → j < n → before j ≡ pos 0 → now j ≡ pos 0
untouched_zero n enter j before pivot now c w p z l e =
    let here : c.divisor *ℤ now enter ≡ c.factor *ℤ before enter -ℤ c.pivot_factor *ℤ pivot enter = c.step.each enter w in
    let none : c.divisor *ℤ now enter ≡ pos 0 = ap (λ x. c.divisor *ℤ x) c.cleared ∙ mul_zero c.divisor in
    let first : c.factor *ℤ before enter ≡ pos 0 = ap (λ x. c.factor *ℤ x) z ∙ mul_zero c.factor in
    let turned : pivot enter *ℤ c.pivot_factor ≡ pos 0 = *ℤ_comm (pivot enter) c.pivot_factor ∙ (let q : c.pivot_factor *ℤ pivot enter ≡ pos 0 = omega (arith, ints) in q) in
    let factor : c.pivot_factor ≡ pos 0 = zero_factor (pivot enter) c.pivot_factor p turned in
    let step : c.divisor *ℤ now j ≡ c.factor *ℤ before j -ℤ c.pivot_factor *ℤ pivot j = c.step.each j l in
    let left : c.factor *ℤ before j ≡ pos 0 = ap (λ x. c.factor *ℤ x) e ∙ mul_zero c.factor in
    let right : c.pivot_factor *ℤ pivot j ≡ pos 0 = ap (λ x. x *ℤ pivot j) factor ∙ zero_mul (pivot j) in
    zero_factor c.divisor (now j) c.step.divided (omega (arith, ints))

pub index_after : (n r words : ℕ) (drops : Bool) (gone : ℕ) (rows now : ℕ → ℕ → ℤ) (row enter : ℕ) (pivot entering : ℕ → ℤ) (before after : List ℕ) → IsIndexOf n r words rows before
    → IsExchange n r (kept drops gone rows) row enter now → ((j : ℕ) → pivot j ≡ now row j) → ((i : ℕ) → i < r → entering i ≡ rows i enter)
    → IsIndexAfter n r words enter row pivot entering before after → IsIndexOf n r words now after
index_after n r words drops gone rows now row enter pivot entering before after h x same column a = record {
  columns = record { each = λ j l. let size = a.others.size in let f = h.columns.each j l in omega arith };
  within = h.within;
  some = λ i j il jl d. elim (cases_eq j enter) as (λ _. bit_of words after j i ≡ 1) [
    | inl e ↦ elim (cases_eq i row) as (λ _. bit_of words after j i ≡ 1) [
      | inl f ↦ subst (λ c. bit_of words after c i ≡ 1) (sym e) (subst (λ k. bit_of words after enter k ≡ 1) (sym f) a.own)
      | inr f ↦ absurd (d (ap (now i) e ∙ (x.others i il f).cleared))
    ]
    | inr e ↦ elim (zero_or (rows i j)) as (λ _. bit_of words after j i ≡ 1) [
      | inr some ↦ a.others.kept j i (let w = h.within in omega arith) e (h.some i j il jl some)
      | inl z ↦
          let zero : kept drops gone rows i j ≡ pos 0 = kept_zero drops gone rows i j z in
          elim (cases_eq i row) as (λ _. bit_of words after j i ≡ 1) [
            | inl f ↦ absurd (d (ap (λ k. now k j) f ∙ pivot_none j jl (ap (λ k. kept drops gone rows k j) (sym f) ∙ zero)))
            | inr f ↦ elim (zero_or (pivot j)) as (λ _. bit_of words after j i ≡ 1) [
              | inl pz ↦ absurd (d (cleared_zero n enter j (kept drops gone rows i) (now row) (now i) (x.others i il f) jl zero (sym (same j) ∙ pz)))
              | inr p ↦ elim (zero_or (entering i)) as (λ _. bit_of words after j i ≡ 1) [
                | inl ez ↦ absurd (d (untouched_zero n enter j (kept drops gone rows i) (now row) (now i) (x.others i il f) x.column_within x.pivot.positive (kept_zero drops gone rows i enter (sym (column i il) ∙ ez)) jl zero))
                | inr some ↦ a.spread i j il jl e some p
              ]
            ]
          ]
    ]
  ];
}
  where
    pivot_none : (j : ℕ) → j < n → kept drops gone rows row j ≡ pos 0 → now row j ≡ pos 0
    pivot_none j l z =
        let step : x.pivot.divisor *ℤ now row j ≡ x.pivot.sign *ℤ kept drops gone rows row j = x.pivot.each j l in
        zero_factor x.pivot.divisor (now row j) x.pivot.divided (step ∙ ap (λ y. x.pivot.sign *ℤ y) z ∙ mul_zero x.pivot.sign)

-- what followed an exchange of equal lists
pub index_moved : (n r m k words enter row place : ℕ) (pivot entering : ℕ → ℤ) (before old after : List ℕ) → n ≡ m → r ≡ k → row ≡ place → before ≡ old → IsIndexAfter n r words enter row pivot entering before after → IsIndexAfter m k words enter place pivot entering old after
index_moved n r m k words enter row place pivot entering before old after a b c d h =
    subst (λ x. IsIndexAfter x k words enter place pivot entering old after) a
    (subst (λ x. IsIndexAfter n x words enter place pivot entering old after) b
    (subst (λ x. IsIndexAfter n r words enter x pivot entering old after) c
    (subst (λ x. IsIndexAfter n r words enter row pivot entering x after) d h)))
