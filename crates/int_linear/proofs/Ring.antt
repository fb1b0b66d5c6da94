-- The ring laws of whole numbers, as one ruleset, and what sign and zero say of a product.
use Rattle.std.proofs.Common.{◌≡◌, ℤ, pos, negsuc, ◌+ℤ◌, ◌-ℤ◌, ◌*ℤ◌, neg_ℤ, ◌≤ℤ◌, ◌<ℤ◌, arith, ap, sym, ◌∙◌, suc, zero, ◌*◌}
use Rattle.std.proofs.lemmas.Int.{ints, by_lt_z}
use borrow.Author.Differences.{up, down, sum_is_lem, product_is, neg_is}
use lib.IntN.{*ℤ_comm, zero-*ℤ}

pub mul_add : (a b c : ℤ) → a *ℤ (b +ℤ c) ≡ a *ℤ b +ℤ a *ℤ c
mul_add a b c = omega (arith, ints, ap (λ n. up a * n) (sum_is_lem b c), ap (λ n. down a * n) (sum_is_lem b c))

pub add_mul : (a b c : ℤ) → (a +ℤ b) *ℤ c ≡ a *ℤ c +ℤ b *ℤ c
add_mul a b c = omega (arith, ints, ap (λ n. n * up c) (sum_is_lem a b), ap (λ n. n * down c) (sum_is_lem a b))

pub mul_assoc : (a b c : ℤ) → a *ℤ b *ℤ c ≡ a *ℤ (b *ℤ c)
mul_assoc a b c = omega (arith, ints, ap (λ n. n * up c) (product_is a b).0, ap (λ n. n * down c) (product_is a b).0, ap (λ n. n * up c) (product_is a b).1, ap (λ n. n * down c) (product_is a b).1, ap (λ n. up a * n) (product_is b c).0, ap (λ n. down a * n) (product_is b c).0, ap (λ n. up a * n) (product_is b c).1, ap (λ n. down a * n) (product_is b c).1)

pub neg_mul : (a b : ℤ) → neg_ℤ a *ℤ b ≡ neg_ℤ (a *ℤ b)
neg_mul a b = omega (arith, ints, ap (λ n. n * up b) (neg_is a).0, ap (λ n. n * up b) (neg_is a).1, ap (λ n. n * down b) (neg_is a).0, ap (λ n. n * down b) (neg_is a).1)

pub mul_neg : (a b : ℤ) → a *ℤ neg_ℤ b ≡ neg_ℤ (a *ℤ b)
mul_neg a b = *ℤ_comm a (neg_ℤ b) ∙ neg_mul b a ∙ ap neg_ℤ (*ℤ_comm b a)

pub mul_left_comm : (a b c : ℤ) → a *ℤ (b *ℤ c) ≡ b *ℤ (a *ℤ c)
mul_left_comm a b c = sym (mul_assoc a b c) ∙ ap (λ x. x *ℤ c) (*ℤ_comm a b) ∙ mul_assoc b a c

pub mul_one : (a : ℤ) → a *ℤ pos 1 ≡ a
mul_one a = omega (arith, ints)

pub one_mul : (a : ℤ) → pos 1 *ℤ a ≡ a
one_mul a = omega (arith, ints)

pub mul_zero : (a : ℤ) → a *ℤ pos 0 ≡ pos 0
mul_zero a = *ℤ_comm a (pos 0) ∙ zero-*ℤ a

pub zero_mul : (a : ℤ) → pos 0 *ℤ a ≡ pos 0
zero_mul a = zero-*ℤ a

pub ruleset products = (mul_zero, zero_mul, mul_one, one_mul, mul_add, add_mul, neg_mul, mul_neg, mul_assoc, *ℤ_comm, mul_left_comm)

-- what sign and zero say of a product
pub mul_nonneg : (a b : ℤ) → pos 0 ≤ℤ a → pos 0 ≤ℤ b → pos 0 ≤ℤ (a *ℤ b)
mul_nonneg (pos a) (pos b) p q = omega (arith, ints)
mul_nonneg (pos a) (negsuc b) p q = absurd (omega (arith, ints))
mul_nonneg (negsuc a) b p q = absurd (omega (arith, ints))

pub mul_pos : (a b : ℤ) → pos 0 <ℤ a → pos 0 <ℤ b → pos 0 <ℤ (a *ℤ b)
mul_pos (pos (suc a)) (pos (suc b)) p q = omega (arith, ints)
mul_pos (pos zero) b p q = absurd (omega (arith, ints))
mul_pos (pos (suc a)) (pos zero) p q = absurd (omega (arith, ints))
mul_pos (pos (suc a)) (negsuc b) p q = absurd (omega (arith, ints))
mul_pos (negsuc a) b p q = absurd (omega (arith, ints))

pub le_mul : (k a b : ℤ) → pos 0 ≤ℤ k → a ≤ℤ b → (k *ℤ a) ≤ℤ (k *ℤ b)
le_mul k a b p h =
    let d : pos 0 ≤ℤ (b -ℤ a) = omega (arith, ints) in
    let m = simp products at (mul_nonneg k (b -ℤ a) p d) in
    omega (arith, ints)

pub lt_mul : (k a b : ℤ) → pos 0 <ℤ k → a <ℤ b → (k *ℤ a) <ℤ (k *ℤ b)
lt_mul k a b p h =
    let d : pos 0 <ℤ (b -ℤ a) = omega (arith, ints) in
    let m = simp products at (mul_pos k (b -ℤ a) p d) in
    omega (arith, ints)

-- a positive factor can be taken away
pub mul_cancel : (k a b : ℤ) → pos 0 <ℤ k → k *ℤ a ≡ k *ℤ b → a ≡ b
mul_cancel k a b p e = by_lt_z a b
    (λ h. absurd (let m = lt_mul k a b p h in omega (arith, ints)))
    (λ h. by_lt_z b a
    (λ g. absurd (let m = lt_mul k b a p g in omega (arith, ints)))
    (λ g. omega (arith, ints)))

pub le_cancel : (k a b : ℤ) → pos 0 <ℤ k → (k *ℤ a) ≤ℤ (k *ℤ b) → a ≤ℤ b
le_cancel k a b p e = by_lt_z b a (λ h. absurd (let m = lt_mul k b a p h in omega (arith, ints))) (λ h. h)

pub lt_cancel : (k a b : ℤ) → pos 0 <ℤ k → (k *ℤ a) <ℤ (k *ℤ b) → a <ℤ b
lt_cancel k a b p e = by_lt_z a b (λ h. h) (λ h. absurd (let z : pos 0 ≤ℤ k = omega (arith, ints) in let m = le_mul k b a z h in omega (arith, ints)))

pub zero_factor : (k a : ℤ) → pos 0 <ℤ k → k *ℤ a ≡ pos 0 → a ≡ pos 0
zero_factor k a p e = mul_cancel k a (pos 0) p (e ∙ sym (mul_zero k))

pub pos_cancel : (k a : ℤ) → pos 0 <ℤ k → pos 0 <ℤ (k *ℤ a) → pos 0 <ℤ a
pos_cancel k a p h = lt_cancel k (pos 0) a p (rw (mul_zero k) h)
