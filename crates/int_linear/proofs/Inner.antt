-- Inner products of rows.
use Rattle.std.proofs.Common.{◌≡◌, ◌≢◌, ◌<◌, ℕ, zero, suc, ℤ, pos, ◌+ℤ◌, ◌-ℤ◌, ◌*ℤ◌, ◌≤ℤ◌, neg_ℤ, arith, refl, ap, sym, ◌∙◌}
use Rattle.std.proofs.lemmas.Int.{ints}
use lib.IntN.{*ℤ_comm}
use Rattle.int_linear.specs.Sums.{total, inner}
use Rattle.int_linear.proofs.Ring.{products, mul_zero, zero_mul, le_mul}
use Rattle.int_linear.proofs.Totals.{total_same, total_zero, total_only, total_swap, total_scale, total_le}

-- rows that agree below n
pub inner_same : (n : ℕ) (f g v : ℕ → ℤ) → ((j : ℕ) → j < n → f j ≡ g j) → inner n f v ≡ inner n g v
inner_same n f g v h = total_same n (λ j. f j *ℤ v j) (λ j. g j *ℤ v j) (λ j p. ap (λ z. z *ℤ v j) (h j p))

-- numbers that agree below n
pub inner_same_at : (n : ℕ) (f v w : ℕ → ℤ) → ((j : ℕ) → j < n → v j ≡ w j) → inner n f v ≡ inner n f w
inner_same_at n f v w h = total_same n (λ j. f j *ℤ v j) (λ j. f j *ℤ w j) (λ j p. ap (λ z. f j *ℤ z) (h j p))

-- the two rows change places
pub inner_comm : (n : ℕ) (f g : ℕ → ℤ) → inner n f g ≡ inner n g f
inner_comm n f g = total_same n (λ j. f j *ℤ g j) (λ j. g j *ℤ f j) (λ j p. *ℤ_comm (f j) (g j))

-- the sum of two rows
pub inner_sum : (n : ℕ) (f g v : ℕ → ℤ) → inner n (λ j. f j +ℤ g j) v ≡ inner n f v +ℤ inner n g v
inner_sum zero f g v = refl
inner_sum (suc n) f g v =
    let i = inner_sum n f g v in
    simp products (omega (arith, ints, simp products at i))

-- a row times a number
pub inner_scale : (n : ℕ) (k : ℤ) (f v : ℕ → ℤ) → inner n (λ j. k *ℤ f j) v ≡ k *ℤ inner n f v
inner_scale zero k f v = sym (mul_zero k)
inner_scale (suc n) k f v =
    let i = simp products at (inner_scale n k f v) in
    simp products (omega (arith, ints))

-- a row with its signs turned
pub inner_neg : (n : ℕ) (f v : ℕ → ℤ) → inner n (λ j. neg_ℤ (f j)) v ≡ neg_ℤ (inner n f v)
inner_neg zero f v = refl
inner_neg (suc n) f v =
    let i = simp products at (inner_neg n f v) in
    simp products (omega (arith, ints))

-- a combination of two rows
pub inner_combine : (n : ℕ) (a b : ℤ) (f g v : ℕ → ℤ) → inner n (λ j. a *ℤ f j -ℤ b *ℤ g j) v ≡ a *ℤ inner n f v -ℤ b *ℤ inner n g v
inner_combine zero a b f g v =
    let p = mul_zero a in
    let q = mul_zero b in
    omega (arith, ints)
inner_combine (suc n) a b f g v =
    let i = simp products at (inner_combine n a b f g v) in
    simp products (omega (arith, ints))

-- the same with a sum
pub inner_combine_sum : (n : ℕ) (a b : ℤ) (f g v : ℕ → ℤ) → inner n (λ j. a *ℤ f j +ℤ b *ℤ g j) v ≡ a *ℤ inner n f v +ℤ b *ℤ inner n g v
inner_combine_sum zero a b f g v =
    let p = mul_zero a in
    let q = mul_zero b in
    omega (arith, ints)
inner_combine_sum (suc n) a b f g v =
    let i = simp products at (inner_combine_sum n a b f g v) in
    simp products (omega (arith, ints))

-- a row that is 0 below n
pub inner_zero : (n : ℕ) (f v : ℕ → ℤ) → ((j : ℕ) → j < n → f j ≡ pos 0) → inner n f v ≡ pos 0
inner_zero n f v h = total_zero n (λ j. f j *ℤ v j) (λ j p. ap (λ z. z *ℤ v j) (h j p) ∙ zero_mul (v j))

-- numbers that are 0 but at one place
pub inner_only : (n k : ℕ) (f v : ℕ → ℤ) → k < n → ((j : ℕ) → j < n → j ≢ k → v j ≡ pos 0) → inner n f v ≡ f k *ℤ v k
inner_only n k f v p h = total_only n k (λ j. f j *ℤ v j) p (λ j q r. ap (λ z. f j *ℤ z) (h j q r) ∙ mul_zero (f j))

-- a combination of m rows: each row's inner product, times its multiplier
pub inner_total : (m n : ℕ) (y : ℕ → ℤ) (rows : ℕ → ℕ → ℤ) (v : ℕ → ℤ) → inner n (λ j. inner m y (λ i. rows i j)) v ≡ inner m y (λ i. inner n (rows i) v)
inner_total m n y rows v =
    let spread : inner n (λ j. inner m y (λ i. rows i j)) v ≡ total n (λ j. total m (λ i. v j *ℤ (y i *ℤ rows i j))) =
    total_same n (λ j. inner m y (λ i. rows i j) *ℤ v j) (λ j. total m (λ i. v j *ℤ (y i *ℤ rows i j)))
    (λ j p. *ℤ_comm (inner m y (λ i. rows i j)) (v j) ∙ sym (total_scale m (v j) (λ i. y i *ℤ rows i j))) in
    let turned = total_swap n m (λ j i. v j *ℤ (y i *ℤ rows i j)) in
    let gathered : total m (λ i. total n (λ j. v j *ℤ (y i *ℤ rows i j))) ≡ inner m y (λ i. inner n (rows i) v) =
    total_same m (λ i. total n (λ j. v j *ℤ (y i *ℤ rows i j))) (λ i. y i *ℤ inner n (rows i) v)
    (λ i p. total_same n (λ j. v j *ℤ (y i *ℤ rows i j)) (λ j. y i *ℤ (rows i j *ℤ v j)) (λ j q. simp products refl) ∙ total_scale n (y i) (λ j. rows i j *ℤ v j)) in
    spread ∙ turned ∙ gathered

-- no multiplier negative: sums of orders
pub inner_le : (n : ℕ) (y f g : ℕ → ℤ) → ((j : ℕ) → j < n → pos 0 ≤ℤ y j) → ((j : ℕ) → j < n → f j ≤ℤ g j) → inner n y f ≤ℤ inner n y g
inner_le n y f g p h = total_le n (λ j. y j *ℤ f j) (λ j. y j *ℤ g j) (λ j q. le_mul (y j) (f j) (g j) (p j q) (h j q))
