-- The numbers of a point in a row, and their divisor.
use Rattle.std.proofs.Common.{◌≡◌, ◌<◌, ◌≤◌, ◌+◌, ◌⊎◌, inl, inr, nat_lt, Bool, true, false, None, Ok, int_lt, ℕ, zero, suc, ℤ, pos, negsuc, ◌*ℤ◌, ◌<ℤ◌, List, [], ◌∷◌, ◌++◌, length, refl, sym, ap, ◌∙◌, subst, arith}
use Rattle.std.specs.Prelude.{unsigned_abs}
use Rattle.std.specs.Int.{◌∣◌, IsGcd}
use Rattle.std.proofs.lemmas.Bool.Decides.{nat_tests}
use Rattle.std.proofs.lemmas.Int.{ints}
use Rattle.std.proofs.lemmas.List.{get_or_past}
use Rattle.std.proofs.lemmas.Nat.Gcd.{dvd_refl}
use Rattle.int_linear.specs.Divisors.{IsRowGcd, IsPrimitive}
use Rattle.int_linear.specs.Sums.{at}
use Rattle.int_linear.proofs.Divisors.{row_gcd_more, primitive_divided, primitive_same_int}
use Rattle.int_linear.proofs.Ring.{products, mul_zero}
use Rattle.outcomes.specs.Calls.{OrMemory, refused_or, refuse_if}
use Rattle.lp_rows.specs.declared.points.PointError.TheVariants as point_error
use Rattle.lp_rows.specs.Points.{PointValue, point_made}
use Rattle.lowest_terms.specs.Terms.{row_of, IsLowestOf}
use Rattle.lowest_terms.specs.Laws.{OneLowest}

pub first_alone : (x : PointValue) → IsRowGcd (0 + 1) (row_of x) (unsigned_abs x.over)
first_alone x = record {
  divides = λ j l. let e : 0 ≡ j = omega arith in subst (λ i. unsigned_abs x.over ∣ unsigned_abs (row_of x i)) e (dvd_refl (unsigned_abs x.over));
  greatest = λ d h. h 0 (omega arith);
}

pub one_more : (x : PointValue) (i d e : ℕ) → IsRowGcd (i + 1) (row_of x) d → IsGcd d (unsigned_abs (at x.nums i)) e → IsRowGcd (i + 1 + 1) (row_of x) e
one_more x i d e r g =
    let s : suc i ≡ i + 1 = omega arith in
    row_gcd_more (i + 1) (row_of x) d e r (subst (λ n. IsGcd d (unsigned_abs (row_of x n)) e) s g)

pub divides_at : (x : PointValue) (d k : ℕ) → IsRowGcd (length x.nums + 1) (row_of x) d → k < length x.nums → d ∣ unsigned_abs (at x.nums k)
divides_at x d k r l = r.divides (suc k) (omega arith)

pub divides_over : (x : PointValue) (d : ℕ) → IsRowGcd (length x.nums + 1) (row_of x) d → d ∣ unsigned_abs x.over
divides_over x d r = r.divides 0 (omega arith)

lt_by : (b : Bool) (k n : ℕ) → nat_lt k n ≡ b → (k < n) ⊎ (n ≤ k)
lt_by true k n e = inl (grind (arith, nat_tests))
lt_by false k n e = inr (grind (arith, nat_tests))

size_is : (d : ℤ) → pos 0 <ℤ d → pos (unsigned_abs d) ≡ d
size_is (pos n) l = refl
size_is (negsuc n) l = absurd (omega (arith, ints))

size_positive : (d : ℤ) → pos 0 <ℤ d → 0 < unsigned_abs d
size_positive (pos n) l = omega (arith, ints)
size_positive (negsuc n) l = absurd (omega (arith, ints))

pub lowest_is : (x y : PointValue) (d : ℤ) → pos 0 <ℤ d → IsRowGcd (length x.nums + 1) (row_of x) (unsigned_abs d) → y.over *ℤ d ≡ x.over → length y.nums ≡ length x.nums
    → ((k : ℕ) → k < length x.nums → at y.nums k *ℤ d ≡ at x.nums k) → IsLowestOf x y
lowest_is x y d l r o c q = record {
  factor = d;
  positive = l;
  count = c;
  same = all;
  lowest =
      let n : length x.nums + 1 ≡ suc (length y.nums) = omega arith in
      subst (λ k. IsPrimitive k (row_of y)) n
      (primitive_divided (length x.nums + 1) (unsigned_abs d) (row_of x) (row_of y) (size_positive d l) r (λ j i. subst (λ z. row_of x j ≡ z *ℤ row_of y j) (sym (size_is d l)) (all j)));
}
  where
    past : (k : ℕ) → length x.nums ≤ k → at x.nums k ≡ d *ℤ at y.nums k
    past k i =
        let a = get_or_past x.nums k (pos 0) i in
        let b = get_or_past y.nums k (pos 0) (omega arith) in
        a ∙ sym (mul_zero d) ∙ ap (λ z. d *ℤ z) (sym b)

    by : (k : ℕ) → (k < length x.nums) ⊎ (length x.nums ≤ k) → at x.nums k ≡ d *ℤ at y.nums k
    by k (inl i) = sym (q k i) ∙ (let e : at y.nums k *ℤ d ≡ d *ℤ at y.nums k = simp products refl in e)
    by k (inr i) = past k i

    all : (j : ℕ) → row_of x j ≡ d *ℤ row_of y j
    all zero = sym o ∙ (let e : y.over *ℤ d ≡ d *ℤ y.over = simp products refl in e)
    all (suc k) = by k (lt_by (nat_lt k (length x.nums)) k (length x.nums) refl)

-- lists that agree at each place
list_same : (xs ys : List ℤ) → length xs ≡ length ys → ((k : ℕ) → k < length xs → at xs k ≡ at ys k) → xs ≡ ys
list_same [] [] c h = refl
list_same [] (y ∷ ys) c h = absurd (omega (arith, c))
list_same (x ∷ xs) [] c h = absurd (omega (arith, c))
list_same (x ∷ xs) (y ∷ ys) c h =
    let a : x ≡ y = h 0 (omega arith) in
    let b : xs ≡ ys = list_same xs ys (omega (arith, c)) (λ k l. h (suc k) (omega (arith, l))) in
    (λ i. a i ∷ b i)

pub one_lowest : OneLowest
one_lowest x y z a b =
    let c : length y.nums ≡ length z.nums = a.count ∙ sym b.count in
    let p : IsPrimitive (suc (length y.nums)) (row_of z) = subst (λ n. IsPrimitive (suc n) (row_of z)) (sym c) b.lowest in
    let s = primitive_same_int (suc (length y.nums)) a.factor b.factor (row_of y) (row_of z) a.positive b.positive a.lowest p (λ j i. sym (a.same j) ∙ b.same j) in
    let o : y.over ≡ z.over = s 0 (omega arith) in
    let n : y.nums ≡ z.nums = list_same y.nums z.nums c (λ k i. s (suc k) (omega (arith, i))) in
    (λ i. record { over = o i; nums = n i })

-- one number more at the end
at_end : (out : List ℤ) (q : ℤ) → at (out ++ q ∷ []) (length out) ≡ q
at_end [] q = refl
at_end (x ∷ xs) q = at_end xs q

at_before : (out : List ℤ) (q : ℤ) (k : ℕ) → k < length out → at (out ++ q ∷ []) k ≡ at out k
at_before [] q k l = absurd (omega arith)
at_before (x ∷ xs) q zero l = refl
at_before (x ∷ xs) q (suc k) l = at_before xs q k (omega arith)

pub pushed : (out nums : List ℤ) (q d : ℤ) (i : ℕ) → length out ≡ i → q *ℤ d ≡ at nums i → ((k : ℕ) → k < i → at out k *ℤ d ≡ at nums k) → (k : ℕ) → k < i + 1 → at (out ++ q ∷ []) k *ℤ d ≡ at nums k
pushed out nums q d i c e h k l = by (lt_by (nat_lt k i) k i refl)
  where
    by : (k < i) ⊎ (i ≤ k) → at (out ++ q ∷ []) k *ℤ d ≡ at nums k
    by (inl m) = ap (λ z. z *ℤ d) (at_before out q k (omega (arith, c, m))) ∙ h k m
    by (inr m) =
        let s : length out ≡ k = omega (arith, c, l, m) in
        let t : i ≡ k = omega (arith, l, m) in
        ap (λ n. at (out ++ q ∷ []) n *ℤ d) (sym s) ∙ ap (λ z. z *ℤ d) (at_end out q) ∙ e ∙ ap (at nums) t

pub end_length : (out : List ℤ) (q : ℤ) → length (out ++ q ∷ []) ≡ length out + 1
end_length [] q = refl
end_length (x ∷ xs) q = let e = end_length xs q in omega (arith, e)

-- a point that is made has the parts that were given
made_by : (b : Bool) (y v : PointValue) → OrMemory point_error.Memory (Ok y) (refused_or (refuse_if b point_error.Over None) v) → y ≡ v
made_by true y v (inl e) = absurd cc
made_by true y v (inr e) = absurd cc
made_by false y v (inl e) = cc
made_by false y v (inr e) = absurd cc

pub made_is : (over : ℤ) (nums : List ℤ) (y : PointValue) → OrMemory point_error.Memory (Ok y) (point_made over nums) → y ≡ record { over = over; nums = nums }
made_is over nums y h = made_by (int_lt over (pos 1)) y (record { over = over; nums = nums }) h
