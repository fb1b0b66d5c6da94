-- Quotients are compared as their cross products are.
use Rattle.std.proofs.Common.{◌≡◌, ◌≢◌, ℤ, pos, ◌+ℤ◌, ◌*ℤ◌, ◌≤ℤ◌, ◌<ℤ◌, arith, refl, inl, inr, ◌⊎◌}
use Rattle.std.proofs.lemmas.Int.{ints}
use Rattle.std.proofs.lemmas.Cmp.{int_ranked}
use Rattle.std.specs.declared.cmp.Ordering.{Ordering}
use Rattle.std.specs.declared.cmp.Ordering.TheVariants.{Less, Equal, Greater}
use Rattle.std.specs.Cmp.{int_cmp_is}
use Rattle.std.specs.Ordering.{int_cmp, MatchOrdering}
use Rattle.int_linear.proofs.Ring.{products, le_mul, lt_mul, mul_pos, zero_mul}
use Rattle.fractions.proofs.Division.{IsDivided}

-- a lesser whole quotient makes the lesser fraction
pub less_quotient : (a b c d p q r s : ℤ) → pos 0 <ℤ b → pos 0 <ℤ d → IsDivided a b p r → IsDivided c d q s → p <ℤ q → (a *ℤ d) <ℤ (c *ℤ b)
less_quotient a b c d p q r s x y left right h =
    let above : pos 0 ≤ℤ (b *ℤ d) = (let m = mul_pos b d x y in omega (arith, ints)) in
    let b_above : pos 0 ≤ℤ b = omega (arith, ints) in
    let next : (p +ℤ pos 1) ≤ℤ q = omega (arith, ints) in
    let bd = simp products at (le_mul (b *ℤ d) (p +ℤ pos 1) q above next) in
    let rd = simp products at (lt_mul d r b y left.high) in
    let sb = simp products at (le_mul b (pos 0) s b_above right.low) in
    rw (left.whole, right.whole) (simp products (omega (arith, ints)))

-- the order of two differences that are equal
pub same_order : (x y v w : ℤ) → x +ℤ w ≡ v +ℤ y → int_cmp x y ≡ int_cmp v w
same_order x y v w e = int_cmp_is v w (int_cmp x y) (moved (int_cmp x y) (int_ranked x y (int_cmp x y) refl))
  where
    moved : (o : Ordering) → MatchOrdering o (x <ℤ y) (x ≡ y) (y <ℤ x) → MatchOrdering o (v <ℤ w) (v ≡ w) (w <ℤ v)
    moved Less h = omega (arith, ints)
    moved Equal h = omega (arith, ints)
    moved Greater h = omega (arith, ints)

-- with equal whole quotients the remainders decide
pub same_quotient : (a b c d q r s : ℤ) → IsDivided a b q r → IsDivided c d q s → int_cmp (a *ℤ d) (c *ℤ b) ≡ int_cmp (r *ℤ d) (s *ℤ b)
same_quotient a b c d q r s left right =
    same_order (a *ℤ d) (c *ℤ b) (r *ℤ d) (s *ℤ b) (rw (left.whole, right.whole) (simp products (omega (arith, ints))))

-- where a remainder is 0 the remainders are in the order of the fractions
pub last_order : (b d r s : ℤ) → pos 0 <ℤ b → pos 0 <ℤ d → pos 0 ≤ℤ r → pos 0 ≤ℤ s → (r ≡ pos 0) ⊎ (s ≡ pos 0) → int_cmp r s ≡ int_cmp (r *ℤ d) (s *ℤ b)
last_order b d r s x y low_r low_s none = int_cmp_is (r *ℤ d) (s *ℤ b) (int_cmp r s) (scaled (int_cmp r s) (int_ranked r s (int_cmp r s) refl))
  where
    scaled : (o : Ordering) → MatchOrdering o (r <ℤ s) (r ≡ s) (s <ℤ r) → MatchOrdering o ((r *ℤ d) <ℤ (s *ℤ b)) (r *ℤ d ≡ s *ℤ b) ((s *ℤ b) <ℤ (r *ℤ d))
    scaled Less h =
        elim none [ inl e ↦ (let z : r *ℤ d ≡ pos 0 = rw e (zero_mul d) in let above : pos 0 <ℤ s = omega (arith, ints) in let m = mul_pos s b above x in omega (arith, ints)) | inr e ↦ absurd (omega (arith, ints)) ]
    scaled Equal h =
        elim none [ inl e ↦ (let z : r *ℤ d ≡ pos 0 = rw e (zero_mul d) in let f : s ≡ pos 0 = omega (arith, ints) in let w : s *ℤ b ≡ pos 0 = rw f (zero_mul b) in omega (arith, ints)) | inr e ↦ (let w : s *ℤ b ≡ pos 0 = rw e (zero_mul b) in let f : r ≡ pos 0 = omega (arith, ints) in let z : r *ℤ d ≡ pos 0 = rw f (zero_mul d) in omega (arith, ints)) ]
    scaled Greater h =
        elim none [ inl e ↦ absurd (omega (arith, ints)) | inr e ↦ (let w : s *ℤ b ≡ pos 0 = rw e (zero_mul b) in let above : pos 0 <ℤ r = omega (arith, ints) in let m = mul_pos r d above y in omega (arith, ints)) ]

-- unequal whole quotients are in the order of the fractions
pub whole_order : (a b c d p q r s : ℤ) → pos 0 <ℤ b → pos 0 <ℤ d → IsDivided a b p r → IsDivided c d q s → p ≢ q → int_cmp p q ≡ int_cmp (a *ℤ d) (c *ℤ b)
whole_order a b c d p q r s x y left right ne = int_cmp_is (a *ℤ d) (c *ℤ b) (int_cmp p q) (scaled (int_cmp p q) (int_ranked p q (int_cmp p q) refl))
  where
    scaled : (o : Ordering) → MatchOrdering o (p <ℤ q) (p ≡ q) (q <ℤ p) → MatchOrdering o ((a *ℤ d) <ℤ (c *ℤ b)) (a *ℤ d ≡ c *ℤ b) ((c *ℤ b) <ℤ (a *ℤ d))
    scaled Less h = less_quotient a b c d p q r s x y left right h
    scaled Equal h = absurd (ne h)
    scaled Greater h = less_quotient c d a b q p s r y x right left h

-- fractions below 1 are compared by turning them over
pub turned_order : (b d r s : ℤ) → int_cmp (d *ℤ r) (b *ℤ s) ≡ int_cmp (r *ℤ d) (s *ℤ b)
turned_order b d r s = same_order (d *ℤ r) (b *ℤ s) (r *ℤ d) (s *ℤ b) (simp products (omega (arith, ints)))
