-- A named exchange has a pivot row, so it is narrow or wide and never both, and wide at one place.
use Rattle.std.proofs.Common.{◌≡◌, ◌≢◌, ◌<◌, ◌+◌, ◌*◌, ◌/◌, ◌%◌, ◌==◌, ℕ, zero, suc, ℤ, pos, negsuc, ◌*ℤ◌, ◌<ℤ◌, neg_ℤ, Bool, true, false, nat_lt, arith, refl, ap, sym, ◌∙◌, subst}
use Rattle.std.proofs.Math.Nat.{div-add-mod}
use Rattle.std.proofs.lemmas.Bool.{eqb-true}
use Rattle.std.proofs.lemmas.Bool.Decides.{nat_tests}
use Rattle.std.proofs.lemmas.Nat.Gcd.{mod-eq-zero_of_dvd}
use Rattle.std.proofs.lemmas.Int.{ints}
use Rattle.std.specs.Int.{◌∣◌}
use Rattle.std.specs.Prelude.{unsigned_abs}
use Rattle.int_linear.proofs.Divisors.{has_gcd, every_row, primitive_divided, primitive_scaled}
use Rattle.int_linear.proofs.Ring.{products, pos_cancel, mul_zero}
use Rattle.simplex_rows.specs.Steps.{IsPivotRow}
use Rattle.simplex_rows.specs.Width.{IsFactors}
use Rattle.simplex_rows.specs.Matrix.{AreNarrow, IsFirstWide}
use Rattle.simplex_rows.proofs.Dropped.{without_else}
use Rattle.exact_simplex.specs.declared.moves.Move.TheVariants.{Exchange}
use Rattle.exact_simplex.specs.Table.{Table, IsSound, kept, entry, width, artificial}
use Rattle.exact_simplex.specs.Bland.{bland_move, row_of}
use Rattle.exact_simplex.specs.Exchange.{counted, IsNarrowMove, IsWideMove}
use Rattle.exact_simplex.proofs.Named.{IsNamed, named}

-- a number over a divisor of it
quotient_of : (g n : ℕ) → g ∣ n → (n / g) * g ≡ n
quotient_of g n d =
    let r : n % g ≡ 0 = mod-eq-zero_of_dvd g d in
    let e : g * (n / g) + n % g ≡ n = div-add-mod n g in
    omega arith

signed_quotient : (g : ℕ) (f : ℤ) → g ∣ unsigned_abs f → (b : ℤ) × (b *ℤ pos g ≡ f)
signed_quotient g (pos n) d = (pos (n / g), ap pos (quotient_of g n d))
signed_quotient g (negsuc n) d = (
  neg_ℤ (pos (suc n / g)),
  (let e : suc n / g * g ≡ suc n = quotient_of g (suc n) d in let q : g * (suc n / g) ≡ suc n = omega arith in simp products (ap (λ k. neg_ℤ (pos k)) q)),
)

-- two numbers over their greatest common divisor
pub factors_of : (p f : ℤ) → pos 0 <ℤ p → (a : ℤ) × ((b : ℤ) × IsFactors p f a b)
factors_of p f l =
    let r = has_gcd (suc (unsigned_abs f)) (unsigned_abs p) (unsigned_abs f) (omega arith) in
    let a = signed_quotient r.0 p r.1.left in
    let b = signed_quotient r.0 f r.1.right in (
      a.0,
      (
        b.0,
        record {
          divisor = pos r.0;
          positive = some r.0 a.0 a.1;
          greatest = (r.1.left, r.1.right, λ d x y. one d r.0 (r.1.scaled 1 d (once d (unsigned_abs p) x) (once d (unsigned_abs f) y)));
          first = a.1;
          second = b.1;
        },
      ),
    )
  where
    once : (d n : ℕ) → d ∣ n → d ∣ 1 * n
    once d n x = subst (λ k. d ∣ k) (omega arith) x

    one : (d n : ℕ) → d ∣ 1 * n → d ∣ n
    one d n x = subst (λ k. d ∣ k) (omega arith) x

    some : (g : ℕ) (a : ℤ) → a *ℤ pos g ≡ p → pos 0 <ℤ pos g
    some zero a e = absurd (let z : a *ℤ pos 0 ≡ pos 0 = mul_zero a in let q : p ≡ pos 0 = sym e ∙ z in omega (arith, ints))
    some (suc g) a e = omega (arith, ints)

-- a row's numbers over a divisor of them
quotient_at : (n g : ℕ) (f : ℕ → ℤ) → ((j : ℕ) → j < n → g ∣ unsigned_abs (f j)) → (j : ℕ) → (q : ℤ) × (j < n → q *ℤ pos g ≡ f j)
quotient_at n g f h j = go (nat_lt j n) refl
  where
    go : (b : Bool) → nat_lt j n ≡ b → (q : ℤ) × (j < n → q *ℤ pos g ≡ f j)
    go true e = let r = signed_quotient g (f j) (h j (grind (arith, nat_tests))) in (r.0, λ l. r.1)
    go false e = (pos 0, λ l. absurd (grind (arith, nat_tests)))

abbrev sign_of : ℤ → ℤ
sign_of (pos n) = pos 1
sign_of (negsuc n) = negsuc 0

sign_size : (z : ℤ) → unsigned_abs (sign_of z) ≡ 1
sign_size (pos n) = refl
sign_size (negsuc n) = refl

sign_positive : (z : ℤ) → z ≢ pos 0 → pos 0 <ℤ (sign_of z *ℤ z)
sign_positive (pos zero) d = absurd (d refl)
sign_positive (pos (suc n)) d = omega (arith, ints)
sign_positive (negsuc n) d = omega (arith, ints)

turned : (s q g z : ℤ) → q *ℤ g ≡ z → g *ℤ (s *ℤ q) ≡ s *ℤ z
turned s q g z e = subst (λ x. g *ℤ (s *ℤ q) ≡ s *ℤ x) e (simp products refl)

-- a row with an entry in the entering column has a pivot row
pub has_pivot_row : (n enter : ℕ) (f : ℕ → ℤ) → enter < n → f enter ≢ pos 0 → (pivot : ℕ → ℤ) × IsPivotRow n enter f pivot
has_pivot_row n enter f l d =
    let g = every_row n f in
    let q = quotient_at n g.divisor f g.greatest.divides in
    let s = sign_of (f enter) in
    let some = size g.divisor (q enter).0 ((q enter).1 l) in
    let each : (j : ℕ) → j < n → pos g.divisor *ℤ (sign_of (f enter) *ℤ (quotient_at n g.divisor f g.greatest.divides j).0) ≡ sign_of (f enter) *ℤ f j =
    λ j b. turned (sign_of (f enter)) (quotient_at n g.divisor f g.greatest.divides j).0 (pos g.divisor) (f j) ((q j).1 b) in (
      λ j. s *ℤ (q j).0,
      record {
        divisor = pos g.divisor;
        sign = s;
        divided = omega (arith, ints);
        signed = sign_size (f enter);
        each = each;
        positive = pos_cancel (pos g.divisor) (s *ℤ (q enter).0) (omega (arith, ints)) (subst (λ z. pos 0 <ℤ z) (sym (each enter l)) (sign_positive (f enter) d));
        primitive = primitive_scaled n s (λ j. (q j).0) (λ j. s *ℤ (q j).0) (sign_size (f enter)) (λ j b. refl)
            (primitive_divided n g.divisor f (λ j. (q j).0) some g.greatest (λ j b. sym ((q j).1 b) ∙ swap (q j).0 (pos g.divisor)));
      },
    )
  where
    size : (g : ℕ) (a : ℤ) → a *ℤ pos g ≡ f enter → 0 < g
    size zero a e = absurd (d (sym e ∙ mul_zero a))
    size (suc g) a e = omega arith

    swap : (a b : ℤ) → a *ℤ b ≡ b *ℤ a
    swap a b = simp products refl

module _ (t : Table) (s : IsSound t) (enter leave : ℕ) (e : bland_move t ≡ Exchange enter leave) where
  -- the leaving row has an entry in the entering column
  leaving_entry : counted t leave (row_of t leave) enter ≢ pos 0
  leaving_entry =
      let n : IsNamed t enter leave = named t s enter leave e in
      λ z. n.nonzero (ap (λ k. entry t k enter) (sym n.row_is) ∙ sym (same n (leave == artificial t) refl (row_of t leave)) ∙ z)
    where
      same : IsNamed t enter leave → (b : Bool) → (leave == artificial t) ≡ b → (k : ℕ) → kept b (artificial t) (entry t) k enter ≡ entry t k enter
      same n true q k = without_else (artificial t) (entry t k) enter (n.other (eqb-true leave (artificial t) q))
      same n false q k = refl

  pub named_pivot : (pivot : ℕ → ℤ) × IsPivotRow (width t) enter (counted t leave (row_of t leave)) pivot
  named_pivot =
      let n : IsNamed t enter leave = named t s enter leave e in
      let below = n.enter_below in
      has_pivot_row (width t) enter (counted t leave (row_of t leave)) (omega arith) leaving_entry

  pub narrow_not_wide : (row column : ℕ) → IsNarrowMove t enter leave → IsWideMove t enter leave row column → ⊥
  narrow_not_wide row column m w =
      let pivot = named_pivot.0 in
      let is = named_pivot.1 in
      not_both (w.each pivot is) (m.each pivot is) is.positive w.row_within
    where
      not_both : IsFirstWide (width t) (t.height + 1) enter (row_of t leave) (counted t leave) named_pivot.0 row column → AreNarrow (width t) (t.height + 1) enter (row_of t leave) (counted t leave) named_pivot.0
          → pos 0 <ℤ named_pivot.0 enter → row < t.height + 1 → ⊥
      not_both first all more l =
          let f = factors_of (named_pivot.0 enter) (counted t leave row enter) more in
          let by = first.wide.each f.0 f.1.0 f.1.1 in
          by.wide (((all.each row l first.other).each f.0 f.1.0 f.1.1).each column by.within)

-- of two places of one first wide step neither comes first
module _ (n r enter skip : ℕ) (rows : ℕ → ℕ → ℤ) (pivot : ℕ → ℤ) (more : pos 0 <ℤ pivot enter) where
  not_before : (row column i j : ℕ) → IsFirstWide n r enter skip rows pivot row column → IsFirstWide n r enter skip rows pivot i j → row < i → ⊥
  not_before row column i j x y l =
      let f = factors_of (pivot enter) (rows row enter) more in
      let by = x.wide.each f.0 f.1.0 f.1.1 in
      by.wide (((y.before.each row l x.other).each f.0 f.1.0 f.1.1).each column by.within)

  not_before_in : (row column j : ℕ) → IsFirstWide n r enter skip rows pivot row column → IsFirstWide n r enter skip rows pivot row j → column < j → ⊥
  not_before_in row column j x y l =
      let f = factors_of (pivot enter) (rows row enter) more in
      let by = x.wide.each f.0 f.1.0 f.1.1 in
      let other = y.wide.each f.0 f.1.0 f.1.1 in
      by.wide (other.before.each column l)

  pub one_first_wide : (row column i j : ℕ) → IsFirstWide n r enter skip rows pivot row column → IsFirstWide n r enter skip rows pivot i j → (row ≡ i) × (column ≡ j)
  one_first_wide row column i j x y =
      let same : row ≡ i = equal row i (not_before row column i j x y) (not_before i j row column y x) in
      let z : IsFirstWide n r enter skip rows pivot row j = subst (λ k. IsFirstWide n r enter skip rows pivot k j) (sym same) y in
      (same, equal column j (not_before_in row column j x z) (not_before_in row j column z x))
    where
      equal : (a b : ℕ) → (a < b → ⊥) → (b < a → ⊥) → a ≡ b
      equal a b p q = grind arith

pub one_wide_place : (t : Table) (s : IsSound t) (enter leave row column i j : ℕ) → bland_move t ≡ Exchange enter leave → IsWideMove t enter leave row column → IsWideMove t enter leave i j → (row ≡ i) × (column ≡ j)
one_wide_place t s enter leave row column i j e w v =
    let p = named_pivot t s enter leave e in
    one_first_wide (width t) (t.height + 1) enter (row_of t leave) (counted t leave) p.0 p.1.positive row column i j (w.each p.0 p.1) (v.each p.0 p.1)
