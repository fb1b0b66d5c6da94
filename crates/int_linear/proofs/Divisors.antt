-- Divisors of rows. A row has a divisor that every divisor of its multiples divides, by Euclid's steps; so no law of Gauss or Bezout is needed.
use Rattle.std.proofs.Common.{◌≡◌, ◌<◌, ◌≤◌, ◌+◌, ◌*◌, ◌/◌, ◌%◌, ℕ, zero, suc, ℤ, pos, negsuc, ◌*ℤ◌, ◌<ℤ◌, arith, ap, sym, ◌∙◌, subst, inl, inr}
use Rattle.std.proofs.Math.Nat.{dvd-add, dvd-add_iff_right, dvd-mul_right, dvd-mul_right_of_dvd, mul-dvd-mul_left, dvd_of_mul-dvd-mul_left, one-dvd, one-mul, mul-one, div-add-mod, mod-lt}
use Rattle.std.proofs.lemmas.Nat.Gcd.{dvd_refl, dvd-zero, dvd_trans, dvd_antisymm}
use Rattle.std.proofs.lemmas.Bool.{cases_eq}
use Rattle.std.proofs.lemmas.Int.{ints, unsigned_abs-mul}
use Rattle.std.specs.Int.{◌∣◌, IsGcd}
use Rattle.std.specs.Prelude.{unsigned_abs}
use Rattle.int_linear.specs.Divisors.{IsRowGcd, IsPrimitive}
use Rattle.int_linear.specs.Laws.{HasRowGcd}
use Rattle.int_linear.proofs.Ring.{mul_cancel}

-- a divisor of two numbers that each divisor of their multiples by k divides, taken k times
pub record ScaledGcd (a b g : ℕ) : Type 0 where
  pub left : g ∣ a
  pub right : g ∣ b
  pub scaled : (k d : ℕ) → d ∣ k * a → d ∣ k * b → d ∣ k * g

-- the same of a row
pub record ScaledRowGcd (n : ℕ) (f : ℕ → ℤ) (g : ℕ) : Type 0 where
  pub divides : (j : ℕ) → j < n → g ∣ unsigned_abs (f j)
  pub scaled : (k d : ℕ) → ((j : ℕ) → j < n → d ∣ k * unsigned_abs (f j)) → d ∣ k * g

-- Euclid's steps, with more fuel than the second number
pub has_gcd : (fuel a b : ℕ) → b < fuel → (g : ℕ) × ScaledGcd a b g
has_gcd zero a b p = absurd (omega arith)
has_gcd (suc fuel) a zero p = (a, record { left = dvd_refl a; right = dvd-zero a; scaled = λ k d x y. x })
has_gcd (suc fuel) a (suc b) p =
    let smaller : a % suc b < suc b = mod-lt a (omega arith) in
    let r = has_gcd fuel (suc b) (a % suc b) (omega arith) in
    let split : suc b * (a / suc b) + a % suc b ≡ a = div-add-mod a (suc b) in (
      r.0,
      record {
        left = subst (λ z. r.0 ∣ z) split (dvd-add r.0 (dvd-mul_right_of_dvd r.0 r.1.left (a / suc b)) r.1.right);
        right = r.1.left;
        scaled = λ k d x y. r.1.scaled k d y (rest k d x y split);
      },
    )
  where
    rest : (k d : ℕ) → d ∣ k * a → d ∣ k * suc b → suc b * (a / suc b) + a % suc b ≡ a → d ∣ k * (a % suc b)
    rest k d x y e =
        let whole : k * suc b * (a / suc b) + k * (a % suc b) ≡ k * a = omega (arith, ap (λ z. k * z) e) in
        (dvd-add_iff_right d (dvd-mul_right_of_dvd d y (a / suc b))).1 (subst (λ z. d ∣ z) (sym whole) x)

-- a row has such a divisor
pub has_row_gcd : (n : ℕ) (f : ℕ → ℤ) → (g : ℕ) × ScaledRowGcd n f g
has_row_gcd zero f = (0, record { divides = λ j p. absurd (omega arith); scaled = λ k d h. subst (λ z. d ∣ z) (omega arith) (dvd-zero d) })
has_row_gcd (suc n) f =
    let r = has_row_gcd n f in
    let s = has_gcd (suc (unsigned_abs (f n))) r.0 (unsigned_abs (f n)) (omega arith) in (
      s.0,
      record {
        divides = λ j p. elim (cases_eq j n) as (λ _. s.0 ∣ unsigned_abs (f j)) [
          | inl e ↦ subst (λ i. s.0 ∣ unsigned_abs (f i)) (sym e) s.1.right
          | inr e ↦ dvd_trans s.0 s.1.left (r.1.divides j (omega arith))
        ];
        scaled = λ k d h. s.1.scaled k d (r.1.scaled k d (λ j p. h j (omega arith))) (h n (omega arith));
      },
    )

-- what divides 1 is 1
one_of_dvd : (d : ℕ) → d ∣ 1 → d ≡ 1
one_of_dvd d h = dvd_antisymm h (one-dvd d)

-- a divisor of every multiple divides the factor
pub primitive_factor : (n : ℕ) (f : ℕ → ℤ) → IsPrimitive n f → (k d : ℕ) → ((j : ℕ) → j < n → d ∣ k * unsigned_abs (f j)) → d ∣ k
primitive_factor n f p k d h =
    let r = has_row_gcd n f in
    let one : r.0 ≡ 1 = one_of_dvd r.0 (p.greatest r.0 r.1.divides) in
    let e : k * r.0 ≡ k = ap (λ z. k * z) one ∙ mul-one k in
    subst (λ z. d ∣ z) e (r.1.scaled k d h)

-- two primitive rows that are multiples of one row, by a and b: the factors are equal
pub primitive_same_factor : (n a b : ℕ) (f g : ℕ → ℤ) → IsPrimitive n f → IsPrimitive n g → ((j : ℕ) → j < n → pos a *ℤ f j ≡ pos b *ℤ g j) → a ≡ b
primitive_same_factor n a b f g p q h =
    let sizes : (j : ℕ) → j < n → a * unsigned_abs (f j) ≡ b * unsigned_abs (g j) =
    λ j l. sym (unsigned_abs-mul (pos a) (f j)) ∙ ap unsigned_abs (h j l) ∙ unsigned_abs-mul (pos b) (g j) in
    dvd_antisymm
    (primitive_factor n g q b a (λ j l. subst (λ z. a ∣ z) (sizes j l) (dvd-mul_right a (unsigned_abs (f j)))))
    (primitive_factor n f p a b (λ j l. subst (λ z. b ∣ z) (sym (sizes j l)) (dvd-mul_right b (unsigned_abs (g j)))))

-- two primitive rows that are positive multiples of one row are equal
pub primitive_same : (n a b : ℕ) (f g : ℕ → ℤ) → 0 < a → IsPrimitive n f → IsPrimitive n g → ((j : ℕ) → j < n → pos a *ℤ f j ≡ pos b *ℤ g j) → (j : ℕ) → j < n → f j ≡ g j
primitive_same n a b f g l p q h j i =
    let e : a ≡ b = primitive_same_factor n a b f g p q h in
    let m : pos a *ℤ f j ≡ pos a *ℤ g j = h j i ∙ ap (λ z. pos z *ℤ g j) (sym e) in
    mul_cancel (pos a) (f j) (g j) (omega (arith, ints)) m

-- the same with whole factors
pub primitive_same_int : (n : ℕ) (a b : ℤ) (f g : ℕ → ℤ) → pos 0 <ℤ a → pos 0 <ℤ b → IsPrimitive n f → IsPrimitive n g → ((j : ℕ) → j < n → a *ℤ f j ≡ b *ℤ g j) → (j : ℕ) → j < n → f j ≡ g j
primitive_same_int n (pos a) (pos b) f g x y p q h = primitive_same n a b f g (omega (arith, ints)) p q h
primitive_same_int n (negsuc a) b f g x y p q h = absurd (omega (arith, ints))
primitive_same_int n (pos a) (negsuc b) f g x y p q h = absurd (omega (arith, ints))

-- a row with its signs turned is as primitive
pub primitive_scaled : (n : ℕ) (s : ℤ) (f g : ℕ → ℤ) → unsigned_abs s ≡ 1 → ((j : ℕ) → j < n → g j ≡ s *ℤ f j) → IsPrimitive n f → IsPrimitive n g
primitive_scaled n s f g u h p =
    let size : (j : ℕ) → j < n → unsigned_abs (g j) ≡ unsigned_abs (f j) =
    λ j l. ap unsigned_abs (h j l) ∙ unsigned_abs-mul s (f j) ∙ ap (λ z. z * unsigned_abs (f j)) u ∙ one-mul (unsigned_abs (f j)) in
    record {
      divides = λ j l. one-dvd (unsigned_abs (g j));
      greatest = λ d k. p.greatest d (λ j l. subst (λ z. d ∣ z) (size j l) (k j l));
    }

-- rows that agree below n
pub primitive_agrees : (n : ℕ) (f g : ℕ → ℤ) → ((j : ℕ) → j < n → g j ≡ f j) → IsPrimitive n f → IsPrimitive n g
primitive_agrees n f g h p = record {
  divides = λ j l. one-dvd (unsigned_abs (g j));
  greatest = λ d k. p.greatest d (λ j l. subst (λ z. d ∣ unsigned_abs z) (h j l) (k j l));
}

-- a row with a 1 in it
pub primitive_unit : (n k : ℕ) (f : ℕ → ℤ) → k < n → unsigned_abs (f k) ≡ 1 → IsPrimitive n f
primitive_unit n k f l u = record {
  divides = λ j p. one-dvd (unsigned_abs (f j));
  greatest = λ d h. subst (λ z. d ∣ z) u (h k l);
}

-- the row divided by its greatest common divisor is primitive
pub primitive_divided : (n g : ℕ) (f q : ℕ → ℤ) → 0 < g → IsRowGcd n f g → ((j : ℕ) → j < n → f j ≡ pos g *ℤ q j) → IsPrimitive n q
primitive_divided n g f q l p h =
    let size : (j : ℕ) → j < n → unsigned_abs (f j) ≡ g * unsigned_abs (q j) =
    λ j i. ap unsigned_abs (h j i) ∙ unsigned_abs-mul (pos g) (q j) in
    record {
      divides = λ j i. one-dvd (unsigned_abs (q j));
      greatest = λ d k.
          let all : g * d ∣ g = p.greatest (g * d) (λ j i. subst (λ z. g * d ∣ z) (sym (size j i)) (mul-dvd-mul_left d g (k j i))) in
          dvd_of_mul-dvd-mul_left d l (subst (λ z. g * d ∣ z) (sym (mul-one g)) all);
    }

-- the greatest common divisor of one place more
pub row_gcd_none : (f : ℕ → ℤ) → IsRowGcd 0 f 0
row_gcd_none f = record { divides = λ j p. absurd (omega arith); greatest = λ d h. dvd-zero d }

pub row_gcd_more : (n : ℕ) (f : ℕ → ℤ) (g h : ℕ) → IsRowGcd n f g → IsGcd g (unsigned_abs (f n)) h → IsRowGcd (n + 1) f h
row_gcd_more n f g h r s = record {
  divides = λ j p. elim (cases_eq j n) as (λ _. h ∣ unsigned_abs (f j)) [
    | inl e ↦ subst (λ i. h ∣ unsigned_abs (f i)) (sym e) s.1
    | inr e ↦ dvd_trans h s.0 (r.divides j (omega arith))
  ];
  greatest = λ d k. s.2 d (r.greatest d (λ j p. k j (omega arith))) (k n (omega arith));
}

-- a row whose first places have the divisor 1 has it whole
pub row_gcd_one : (n m : ℕ) (f : ℕ → ℤ) → n ≤ m → IsRowGcd n f 1 → IsRowGcd m f 1
row_gcd_one n m f l r = record {
  divides = λ j p. one-dvd (unsigned_abs (f j));
  greatest = λ d h. r.greatest d (λ j p. h j (omega arith));
}

-- a row has one greatest common divisor
pub row_gcd_same : (n g h : ℕ) (f : ℕ → ℤ) → IsRowGcd n f g → IsRowGcd n f h → g ≡ h
row_gcd_same n g h f r s = dvd_antisymm (s.greatest g r.divides) (r.greatest h s.divides)

-- each row has one
pub every_row : (n : ℕ) (f : ℕ → ℤ) → HasRowGcd n f
every_row n f =
    let r = has_row_gcd n f in
    let g : IsRowGcd n f r.0 = record {
      divides = r.1.divides;
      greatest = λ d h. subst (λ z. d ∣ z) (one-mul r.0) (r.1.scaled 1 d (λ j p. subst (λ z. d ∣ z) (sym (one-mul (unsigned_abs (f j)))) (h j p)));
    } in
    record { divisor = r.0; greatest = g; alone = λ k h. row_gcd_same n k r.0 f h g }
