-- Sums over a range of places.
use Rattle.std.proofs.Common.{◌≡◌, ◌≢◌, ◌<◌, ◌+◌, ℕ, zero, suc, ℤ, pos, ◌+ℤ◌, ◌*ℤ◌, ◌≤ℤ◌, ◌<ℤ◌, neg_ℤ, arith, refl, ap, sym, inl, inr}
use Rattle.std.proofs.lemmas.Int.{ints, by_lt_z}
use Rattle.std.proofs.lemmas.Bool.{cases_eq}
use Rattle.int_linear.specs.Sums.{total}
use Rattle.int_linear.proofs.Ring.{products, mul_zero}

-- equal terms
pub total_same : (n : ℕ) (f g : ℕ → ℤ) → ((j : ℕ) → j < n → f j ≡ g j) → total n f ≡ total n g
total_same zero f g h = refl
total_same (suc n) f g h =
    let i : total n f ≡ total n g = total_same n f g (λ j p. h j (omega arith)) in
    let e : f n ≡ g n = h n (omega arith) in
    omega (arith, ints)

-- the sum of two sums
pub total_add : (n : ℕ) (f g : ℕ → ℤ) → total n (λ j. f j +ℤ g j) ≡ total n f +ℤ total n g
total_add zero f g = refl
total_add (suc n) f g =
    let i = total_add n f g in
    omega (arith, ints)

-- a common factor
pub total_scale : (n : ℕ) (k : ℤ) (f : ℕ → ℤ) → total n (λ j. k *ℤ f j) ≡ k *ℤ total n f
total_scale zero k f = sym (mul_zero k)
total_scale (suc n) k f =
    let i = total_scale n k f in
    simp products (omega (arith, ints))

-- a turned sign
pub total_neg : (n : ℕ) (f : ℕ → ℤ) → total n (λ j. neg_ℤ (f j)) ≡ neg_ℤ (total n f)
total_neg zero f = refl
total_neg (suc n) f =
    let i = total_neg n f in
    omega (arith, ints)

-- terms that are all 0
pub total_zero : (n : ℕ) (f : ℕ → ℤ) → ((j : ℕ) → j < n → f j ≡ pos 0) → total n f ≡ pos 0
total_zero zero f h = refl
total_zero (suc n) f h =
    let i : total n f ≡ pos 0 = total_zero n f (λ j p. h j (omega arith)) in
    let e : f n ≡ pos 0 = h n (omega arith) in
    omega (arith, ints)

-- terms of which none is negative
pub total_nonneg : (n : ℕ) (f : ℕ → ℤ) → ((j : ℕ) → j < n → pos 0 ≤ℤ f j) → pos 0 ≤ℤ total n f
total_nonneg zero f h = omega (arith, ints)
total_nonneg (suc n) f h =
    let i : pos 0 ≤ℤ total n f = total_nonneg n f (λ j p. h j (omega arith)) in
    let e : pos 0 ≤ℤ f n = h n (omega arith) in
    omega (arith, ints)

-- each term at most another
pub total_le : (n : ℕ) (f g : ℕ → ℤ) → ((j : ℕ) → j < n → f j ≤ℤ g j) → total n f ≤ℤ total n g
total_le zero f g h = omega (arith, ints)
total_le (suc n) f g h =
    let i : total n f ≤ℤ total n g = total_le n f g (λ j p. h j (omega arith)) in
    let e : f n ≤ℤ g n = h n (omega arith) in
    omega (arith, ints)

-- one place alone, where only the places below n are known
pub total_only : (n k : ℕ) (f : ℕ → ℤ) → k < n → ((j : ℕ) → j < n → j ≢ k → f j ≡ pos 0) → total n f ≡ f k
total_only zero k f p h = absurd (omega arith)
total_only (suc n) k f p h = elim (cases_eq k n) as (λ _. total (suc n) f ≡ f k) [
  | inl e ↦
      let i : total n f ≡ pos 0 = total_zero n f (λ j q. h j (omega arith) (omega arith)) in
      let s : f n ≡ f k = ap f (sym e) in
      omega (arith, ints)
  | inr e ↦
      let i : total n f ≡ f k = total_only n k f (omega arith) (λ j q r. h j (omega arith) r) in
      let s : f n ≡ pos 0 = h n (omega arith) (omega arith) in
      omega (arith, ints)
]

-- one place alone
pub total_single : (n k : ℕ) (f : ℕ → ℤ) → k < n → ((j : ℕ) → j ≢ k → f j ≡ pos 0) → total n f ≡ f k
total_single n k f p h = total_only n k f p (λ j q r. h j r)

-- two places alone
pub total_pair : (n k l : ℕ) (f : ℕ → ℤ) → k < n → l < n → k ≢ l → ((j : ℕ) → j < n → j ≢ k → j ≢ l → f j ≡ pos 0) → total n f ≡ f k +ℤ f l
total_pair zero k l f p q d h = absurd (omega arith)
total_pair (suc n) k l f p q d h = elim (cases_eq k n) as (λ _. total (suc n) f ≡ f k +ℤ f l) [
  | inl e ↦
      let i : total n f ≡ f l = total_only n l f (omega arith) (λ j b r. h j (omega arith) (omega arith) r) in
      let s : f n ≡ f k = ap f (sym e) in
      omega (arith, ints)
  | inr e ↦ elim (cases_eq l n) as (λ _. total (suc n) f ≡ f k +ℤ f l) [
    | inl g ↦
        let i : total n f ≡ f k = total_only n k f (omega arith) (λ j b r. h j (omega arith) r (omega arith)) in
        let s : f n ≡ f l = ap f (sym g) in
        omega (arith, ints)
    | inr g ↦
        let i : total n f ≡ f k +ℤ f l = total_pair n k l f (omega arith) (omega arith) d (λ j b r t. h j (omega arith) r t) in
        let s : f n ≡ pos 0 = h n (omega arith) (omega arith) (omega arith) in
        omega (arith, ints)
  ]
]

-- sums in two directions
pub total_swap : (m n : ℕ) (f : ℕ → ℕ → ℤ) → total m (λ i. total n (λ j. f i j)) ≡ total n (λ j. total m (λ i. f i j))
total_swap zero n f = sym (total_zero n (λ j. pos 0) (λ j p. refl))
total_swap (suc m) n f =
    let i = total_swap m n f in
    let a = total_add n (λ j. total m (λ i. f i j)) (λ j. f m j) in
    omega (arith, ints)

-- a sum's first m places and the others
pub total_append : (m n : ℕ) (f : ℕ → ℤ) → total (m + n) f ≡ total m f +ℤ total n (λ j. f (m + j))
total_append m zero f =
    let e : total (m + 0) f ≡ total m f = let z : m + 0 ≡ m = omega arith in ap (λ k. total k f) z in
    omega (arith, ints)
total_append m (suc n) f =
    let i = total_append m n f in
    let e : total (m + suc n) f ≡ total (suc (m + n)) f = let z : m + suc n ≡ suc (m + n) = omega arith in ap (λ k. total k f) z in
    omega (arith, ints)

-- a positive sum of which no place is positive does not exist
pub total_le_zero : (n : ℕ) (f : ℕ → ℤ) → ((j : ℕ) → j < n → f j ≤ℤ pos 0) → total n f ≤ℤ pos 0
total_le_zero zero f h = omega (arith, ints)
total_le_zero (suc n) f h =
    let i : total n f ≤ℤ pos 0 = total_le_zero n f (λ j p. h j (omega arith)) in
    let e : f n ≤ℤ pos 0 = h n (omega arith) in
    omega (arith, ints)

-- a place with a positive term
pub total_positive : (n : ℕ) (f : ℕ → ℤ) → pos 0 <ℤ total n f → (j : ℕ) × (j < n) × (pos 0 <ℤ f j)
total_positive zero f h = absurd (omega (arith, ints))
total_positive (suc n) f h = by_lt_z (pos 0) (f n)
    (λ p. (n, omega arith, p))
    (λ p. let s = total_positive n f (omega (arith, ints)) in (s.0, omega (arith, s.1), s.2))
