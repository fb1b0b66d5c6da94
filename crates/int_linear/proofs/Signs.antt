-- What the signs of two factors say of their product, and back.
use Rattle.std.proofs.Common.{ℤ, pos, ◌*ℤ◌, neg_ℤ, ◌≤ℤ◌, ◌<ℤ◌, arith}
use Rattle.std.proofs.lemmas.Int.{ints, by_lt_z}
use Rattle.int_linear.proofs.Ring.{products, mul_pos, mul_nonneg, le_mul, lt_mul, mul_zero}

-- one factor not negative, the other not positive
pub mul_nonpos : (a b : ℤ) → pos 0 ≤ℤ a → b ≤ℤ pos 0 → (a *ℤ b) ≤ℤ pos 0
mul_nonpos a b p q =
    let m = le_mul a b (pos 0) p q in
    let z = mul_zero a in
    omega (arith, ints)

-- one factor positive, the other negative
pub mul_negative : (a b : ℤ) → pos 0 <ℤ a → b <ℤ pos 0 → (a *ℤ b) <ℤ pos 0
mul_negative a b p q =
    let m = lt_mul a b (pos 0) p q in
    let z = mul_zero a in
    omega (arith, ints)

-- both negative or 0
pub mul_both_nonpos : (a b : ℤ) → a ≤ℤ pos 0 → b ≤ℤ pos 0 → pos 0 ≤ℤ (a *ℤ b)
mul_both_nonpos a b p q =
    let x : pos 0 ≤ℤ neg_ℤ a = omega (arith, ints) in
    let y : pos 0 ≤ℤ neg_ℤ b = omega (arith, ints) in
    let m = simp products at (mul_nonneg (neg_ℤ a) (neg_ℤ b) x y) in
    omega (arith, ints)

-- both negative
pub mul_both_negative : (a b : ℤ) → a <ℤ pos 0 → b <ℤ pos 0 → pos 0 <ℤ (a *ℤ b)
mul_both_negative a b p q =
    let x : pos 0 <ℤ neg_ℤ a = omega (arith, ints) in
    let y : pos 0 <ℤ neg_ℤ b = omega (arith, ints) in
    let m = simp products at (mul_pos (neg_ℤ a) (neg_ℤ b) x y) in
    omega (arith, ints)

-- a product that is not negative, of a positive factor
pub nonneg_cancel : (k a : ℤ) → pos 0 <ℤ k → pos 0 ≤ℤ (k *ℤ a) → pos 0 ≤ℤ a
nonneg_cancel k a p h = by_lt_z a (pos 0) (λ n. absurd (let m = mul_negative k a p n in omega (arith, ints))) (λ n. n)

-- a negative product, of a positive factor
pub negative_cancel : (k a : ℤ) → pos 0 <ℤ k → (k *ℤ a) <ℤ pos 0 → a <ℤ pos 0
negative_cancel k a p h = by_lt_z a (pos 0) (λ n. n) (λ n. absurd (let z : pos 0 ≤ℤ k = omega (arith, ints) in let m = mul_nonneg k a z n in omega (arith, ints)))

-- a product that is not positive, of a positive factor
pub nonpos_cancel : (k a : ℤ) → pos 0 <ℤ k → (k *ℤ a) ≤ℤ pos 0 → a ≤ℤ pos 0
nonpos_cancel k a p h = by_lt_z (pos 0) a (λ n. absurd (let m = mul_pos k a p n in omega (arith, ints))) (λ n. n)
