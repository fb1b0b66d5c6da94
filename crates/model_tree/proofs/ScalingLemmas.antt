-- The least scale of fractions is the least common multiple of their denominators.
use Rattle.std.proofs.Common.{◌≡◌, ◌≢◌, ◌⊎◌, inl, inr, ℕ, zero, suc, ◌+◌, ◌*◌, ◌/◌, ◌%◌, ◌≤◌, ◌<◌, ◌^◌, Bool, true, false, not, ◌&&◌, List, [], ◌∷◌, refl, sym, ap, ◌∙◌, subst, arith, nat_eq, nat_lt, nat_le, ℤ, pos, unsigned_abs, negsuc, ◌<ℤ◌, FitsSigned, Option, Some, None, Result, Ok, Err, length, get_or, drop, add-one, drop-cons, if◌then◌else◌}
use Prim.Native.Nat.{◌∣◌}
use mir.Syntax.{w128}
use Rattle.std.specs.List.{list_all}
use Rattle.std.proofs.lemmas.Bool.Decides.{nat_tests}
use Rattle.std.proofs.lemmas.Int.{ints, unsigned_abs-mul}
use Rattle.std.proofs.lemmas.Nat.{le-div}
use Rattle.std.proofs.lemmas.Nat.Gcd.{dvd_refl, dvd_trans, le_of_dvd, dvd_of_mod-eq-zero, mod-eq-zero_of_dvd}
use Rattle.std.proofs.Math.Nat.{dvd-mul_left, dvd-mul_right}
use Rattle.fractions.specs.Divisors.{IsLcm}
use Rattle.fractions.specs.Fraction.{Fraction}
use Rattle.lp_rows.specs.declared.kinds.Rel.{Rel}
use Rattle.lp_rows.specs.declared.rows.RowError.{RowError}
use Rattle.lp_rows.specs.declared.rows.RowError.TheVariants as row_error
use Rattle.lp_rows.specs.Rows.{RowValue, is_storable, has_zero, are_storable, ascends_from, row_refusal, row_made}
use Rattle.outcomes.specs.Calls.{OrMemory, refuse_if, refused_or}
use Rattle.model_tree.specs.declared.errors.BuildError.{BuildError}
use Rattle.model_tree.specs.declared.errors.BuildError.TheVariants.{Number, NameTwice, NameUnknown, Memory}
use Rattle.model_tree.specs.declared.scaling.Stored.{Stored}
use Rattle.model_tree.specs.Bounds.{has_small_parts}
use Rattle.model_tree.specs.Scaling.{are_numbers, refusal_of_terms}
use Rattle.model_tree.specs.Scaling.{is_multiple, all_divide, least_multiple_from, product_of, least_scale, are_positive, denominators, scale_of, scaled, scaled_terms, has_id_twice, insert_term, sorted_among, sorted_terms, stored_terms}
use Rattle.model_tree.proofs.Bools.{both, and_true}

zero_is : (n : ℕ) → nat_eq n 0 ≡ true → n ≡ 0
zero_is n h = grind (arith, nat_tests)

is_zero : (n : ℕ) → n ≡ 0 → nat_eq n 0 ≡ true
is_zero n h = grind (arith, nat_tests)

pub divides : (d m : ℕ) → is_multiple d m ≡ true → d ∣ m
divides d m h = dvd_of_mod-eq-zero d (zero_is (m % d) h)

pub is_divided : (d m : ℕ) → d ∣ m → is_multiple d m ≡ true
is_divided d m h = is_zero (m % d) (mod-eq-zero_of_dvd d h)

-- what every common multiple is: a multiple of the scale so far that the rest divide
pub record IsScaleSoFar (scale : ℕ) (rest ds : List ℕ) : Type 0 where
  pub forth : (m : ℕ) → all_divide ds m ≡ true → (scale ∣ m) × (all_divide rest m ≡ true)
  pub back : (m : ℕ) → scale ∣ m → all_divide rest m ≡ true → all_divide ds m ≡ true

-- 1 changes no multiple
pub lcm_with_one : (a b : ℤ) → b ≡ pos 1 → IsLcm (unsigned_abs a) (unsigned_abs b) (unsigned_abs a)
lcm_with_one a b e = subst (λ n. IsLcm (unsigned_abs a) (unsigned_abs n) (unsigned_abs a)) (sym e) (with_one (unsigned_abs a))
  where
    with_one : (n : ℕ) → IsLcm n 1 n
    with_one n = record { first = dvd_refl n; second = dvd_of_mod-eq-zero 1 (omega arith); least = λ m f s. f }

pub scale_begins : (d : ℕ) (ds : List ℕ) → IsScaleSoFar d ds (d ∷ ds)
scale_begins d ds = record {
  forth = λ m h. let p = both (is_multiple d m) (all_divide ds m) h in (divides d m p.0, p.1);
  back = λ m h k. and_true (is_multiple d m) (all_divide ds m) (is_divided d m h) k;
}

pub scale_goes_on : (scale d next : ℕ) (rest ds : List ℕ) → IsScaleSoFar scale (d ∷ rest) ds → IsLcm scale d next → IsScaleSoFar next rest ds
scale_goes_on scale d next rest ds s l = record {
  forth = λ m h.
      let f = s.forth m h in
      let p = both (is_multiple d m) (all_divide rest m) f.1 in
      (l.least m f.0 (divides d m p.0), p.1);
  back = λ m h k. s.back m (dvd_trans scale l.first h) (and_true (is_multiple d m) (all_divide rest m) (is_divided d m (dvd_trans d l.second h)) k);
}

-- the search finds the least

found : (b : Bool) (n k m : ℕ) (ds : List ℕ) → all_divide ds k ≡ b → k ≤ m → m ≤ k + suc n → all_divide ds m ≡ true
    → (suc k ≤ m → m ≤ suc k + n → (all_divide ds (least_multiple_from n (suc k) ds) ≡ true) × (least_multiple_from n (suc k) ds ≤ m) × (suc k ≤ least_multiple_from n (suc k) ds))
    → (all_divide ds (if b then k else least_multiple_from n (suc k) ds) ≡ true) × ((if b then k else least_multiple_from n (suc k) ds) ≤ m) × (k ≤ (if b then k else least_multiple_from n (suc k) ds))
found true n k m ds e l u h f = (e, l, omega arith)
found false n k m ds e l u h f =
    let ne : k ≢ m = λ q. absurd (differ (sym e ∙ ap (all_divide ds) q ∙ h)) in
    let r = f (omega arith) (omega arith) in (r.0, r.1, omega (arith, r.2))
  where
    differ : false ≡ true → ⊥
    differ q = cc

search_finds : (n k m : ℕ) (ds : List ℕ) → k ≤ m → m ≤ k + n → all_divide ds m ≡ true
    → (all_divide ds (least_multiple_from n k ds) ≡ true) × (least_multiple_from n k ds ≤ m) × (k ≤ least_multiple_from n k ds)
unfolding least_multiple_from
search_finds zero k m ds l u h = let e : m ≡ k = omega arith in (subst (λ x. all_divide ds x ≡ true) e h, l, omega arith)
search_finds (suc n) k m ds l u h = found (all_divide ds k) n k m ds refl l u h (λ p q. search_finds n (suc k) m ds p q h)

-- the product is a common multiple

product_positive : (ds : List ℕ) → are_positive ds ≡ true → 1 ≤ product_of ds
unfolding product_of
product_positive [] h = omega arith
product_positive (d ∷ ds) h =
    let p = both (nat_lt 0 d) (are_positive ds) h in
    let a : 1 ≤ d = at_least d p.0 in
    let b = product_positive ds p.1 in at_least_product d (product_of ds) a b
  where
    at_least : (n : ℕ) → nat_lt 0 n ≡ true → 1 ≤ n
    at_least n q = grind (arith, nat_tests)

    at_least_product : (x y : ℕ) → 1 ≤ x → 1 ≤ y → 1 ≤ x * y
    at_least_product x y q r = grind arith

all_divide_more : (ds : List ℕ) (m n : ℕ) → m ∣ n → all_divide ds m ≡ true → all_divide ds n ≡ true
all_divide_more [] m n h k = refl
all_divide_more (d ∷ ds) m n h k =
    let p = both (is_multiple d m) (all_divide ds m) k in
    and_true (is_multiple d n) (all_divide ds n) (is_divided d n (dvd_trans d (divides d m p.0) h)) (all_divide_more ds m n h p.1)

product_divided : (ds : List ℕ) → all_divide ds (product_of ds) ≡ true
unfolding product_of
product_divided [] = refl
product_divided (d ∷ ds) =
    and_true (is_multiple d (d * product_of ds)) (all_divide ds (d * product_of ds))
    (is_divided d (d * product_of ds) (dvd-mul_right d (product_of ds)))
    (all_divide_more ds (product_of ds) (d * product_of ds) (dvd-mul_left (product_of ds) d) (product_divided ds))

-- what the least scale is
pub record IsLeast (ds : List ℕ) (k : ℕ) : Type 0 where
  pub divided : all_divide ds k ≡ true
  pub positive : 1 ≤ k

pub least_scale_is : (ds : List ℕ) → are_positive ds ≡ true → IsLeast ds (least_scale ds)
unfolding least_scale
least_scale_is ds h =
    let p = product_positive ds h in
    let f = search_finds (product_of ds) 1 (product_of ds) ds p (omega arith) (product_divided ds) in
    record { divided = f.0; positive = f.2 }

pub least_scale_below : (ds : List ℕ) (m : ℕ) → are_positive ds ≡ true → 1 ≤ m → all_divide ds m ≡ true → least_scale ds ≤ m
unfolding least_scale
least_scale_below ds m h l a = below (nat_le m (1 + product_of ds)) refl
  where
    within : nat_le m (1 + product_of ds) ≡ true → m ≤ 1 + product_of ds
    within q = grind (arith, nat_tests)

    past : nat_le m (1 + product_of ds) ≡ false → product_of ds ≤ m
    past q = grind (arith, nat_tests)

    below : (b : Bool) → nat_le m (1 + product_of ds) ≡ b → least_multiple_from (product_of ds) 1 ds ≤ m
    below true q = (search_finds (product_of ds) 1 m ds l (within q) a).1
    below false q =
        let p = product_positive ds h in
        let f = search_finds (product_of ds) 1 (product_of ds) ds p (omega arith) (product_divided ds) in
        let r = past q in omega (arith, f.1, r)

pub scale_ends : (scale : ℕ) (ds : List ℕ) → IsScaleSoFar scale [] ds → are_positive ds ≡ true → 1 ≤ scale → scale ≡ least_scale ds
scale_ends scale ds s h l =
    let k = least_scale_is ds h in
    let a = le_of_dvd (omega (arith, k.positive)) (s.forth (least_scale ds) k.divided).0 in
    let b = least_scale_below ds scale h l (s.back scale (dvd_refl scale) refl) in
    omega (arith, a, b)

pub scale_is_past : (scale d multiple : ℕ) (rest ds : List ℕ) → IsScaleSoFar scale (d ∷ rest) ds → are_positive ds ≡ true
    → IsLcm scale d multiple → 2 ^ 127 ≤ multiple → 2 ^ 127 ≤ least_scale ds
scale_is_past scale d multiple rest ds s h l past =
    let k = least_scale_is ds h in
    let f = s.forth (least_scale ds) k.divided in
    let p = both (is_multiple d (least_scale ds)) (all_divide rest (least_scale ds)) f.1 in
    let a = le_of_dvd (omega (arith, k.positive)) (l.least (least_scale ds) f.0 (divides d (least_scale ds) p.0)) in
    omega (arith, a, past)

-- a scale past 128 bits makes a number that is too large

list_all_inserted : {A : Type 0} (test : ℕ × A → Bool) (t : ℕ × A) (ts : List (ℕ × A)) → list_all test (t ∷ ts) ≡ true → list_all test (insert_term t ts) ≡ true
list_all_inserted test t [] h = h
list_all_inserted test t (u ∷ us) h =
    let p = both (test t) (list_all test (u ∷ us)) h in
    let q = both (test u) (list_all test us) p.1 in
    chosen (nat_lt t.0 u.0) (and_true (test u) (list_all test (insert_term t us)) q.0 (list_all_inserted test t us (and_true (test t) (list_all test us) p.0 q.1)))
  where
    chosen : (b : Bool) → list_all test (u ∷ insert_term t us) ≡ true → list_all test (if b then t ∷ u ∷ us else u ∷ insert_term t us) ≡ true
    chosen true k = h
    chosen false k = k

pub list_all_sorted : {A : Type 0} (test : ℕ × A → Bool) (placed ts : List (ℕ × A)) → list_all test placed ≡ true → list_all test ts ≡ true → list_all test (sorted_among placed ts) ≡ true
list_all_sorted test placed [] p q = p
list_all_sorted test placed (t ∷ ts) p q =
    let h = both (test t) (list_all test ts) q in
    list_all_sorted test (insert_term t placed) ts (list_all_inserted test t placed (and_true (test t) (list_all test placed) h.0 p)) h.1

-- a list that is not empty stays so
abbrev pub is_some_term : {A : Type 0} → List (ℕ × A) → Bool
is_some_term [] = false
is_some_term (t ∷ ts) = true

some_inserted : {A : Type 0} (t : ℕ × A) (ts : List (ℕ × A)) → is_some_term (insert_term t ts) ≡ true
some_inserted t [] = refl
some_inserted t (u ∷ us) = chosen (nat_lt t.0 u.0)
  where
    chosen : (b : Bool) → is_some_term (if b then t ∷ u ∷ us else u ∷ insert_term t us) ≡ true
    chosen true = refl
    chosen false = refl

some_sorted : {A : Type 0} (placed ts : List (ℕ × A)) → is_some_term placed ≡ true → is_some_term (sorted_among placed ts) ≡ true
some_sorted placed [] h = h
some_sorted placed (t ∷ ts) h = some_sorted (insert_term t placed) ts (some_inserted t placed)

-- a fraction other than 0 with a small denominator, times such a scale, is too large to be stored
grows : (n q : ℕ) → 1 ≤ n → 10 ^ 15 < q → 10 ^ 15 < n * q
grows (suc n) q a b = omega (arith, b)
grows zero q a b = absurd (omega (arith, a))

large_part : (f : Fraction) (k : ℕ) → has_small_parts f ≡ true → 1 ≤ unsigned_abs f.den → 2 ^ 127 ≤ k → 1 ≤ unsigned_abs f.num → is_storable (scaled k f) ≡ false
large_part f k s d h n =
    let p = both (is_storable f.num) (is_storable f.den) s in
    let small = at_most (unsigned_abs f.den) p.1 in
    let q : 10 ^ 15 + 1 ≤ k / unsigned_abs f.den = le-div (10 ^ 15 + 1) k (unsigned_abs f.den) (omega (arith, d)) (omega (arith, small, h)) in
    let g = grows (unsigned_abs f.num) (k / unsigned_abs f.den) n (omega (arith, q)) in
    let e = unsigned_abs-mul f.num (pos (k / unsigned_abs f.den)) in
    not_at_most (unsigned_abs (scaled k f)) (omega (arith, e, g))
  where
    at_most : (x : ℕ) → nat_le x (10 ^ 15) ≡ true → x ≤ 10 ^ 15
    at_most x r = grind (arith, nat_tests)

    not_at_most : (x : ℕ) → 10 ^ 15 < x → nat_le x (10 ^ 15) ≡ false
    not_at_most x r = grind (arith, nat_tests)

-- the numbers are refused where a part of the tests fails
no_zero_wanted : (a b z s r : Bool) → z ≡ true → (a && b && not z && s && r) ≡ false
no_zero_wanted true true z s r h = rw h
no_zero_wanted true false z s r h = refl
no_zero_wanted false b z s r h = refl

all_small_wanted : (a b z s r : Bool) → s ≡ false → (a && b && not z && s && r) ≡ false
all_small_wanted true true true s r h = refl
all_small_wanted true true false s r h = rw h
all_small_wanted true false z s r h = refl
all_small_wanted false b z s r h = refl

-- the first of terms, times such a scale, is 0 or too large
zero_or_large : (k : ℕ) (ts : List (ℕ × Fraction)) → is_some_term ts ≡ true → list_all (λ t. has_small_parts t.1) ts ≡ true
    → list_all (λ t. nat_lt 0 (unsigned_abs t.1.den)) ts ≡ true → 2 ^ 127 ≤ k → (has_zero (scaled_terms k ts) ≡ true) ⊎ (are_storable (scaled_terms k ts) ≡ false)
zero_or_large k [] n s p h = absurd (differ n)
  where
    differ : false ≡ true → ⊥
    differ q = cc
zero_or_large k (t ∷ ts) n s p h =
    let a = both (has_small_parts t.1) (list_all (λ u. has_small_parts u.1) ts) s in
    let b = both (nat_lt 0 (unsigned_abs t.1.den)) (list_all (λ u. nat_lt 0 (unsigned_abs u.1.den)) ts) p in
    by_num (nat_eq (unsigned_abs t.1.num) 0) refl a.0 (at_least (unsigned_abs t.1.den) b.0)
  where
    at_least : (x : ℕ) → nat_lt 0 x ≡ true → 1 ≤ x
    at_least x q = grind (arith, nat_tests)

    not_zero : (x : ℕ) → nat_eq x 0 ≡ false → 1 ≤ x
    not_zero x q = grind (arith, nat_tests)

    product_zero : (x y : ℕ) → x ≡ 0 → x * y ≡ 0
    product_zero x y q = omega (arith, ap (λ z. z * y) q)

    by_num : (b : Bool) → nat_eq (unsigned_abs t.1.num) 0 ≡ b → has_small_parts t.1 ≡ true → 1 ≤ unsigned_abs t.1.den
        → (has_zero (scaled_terms k (t ∷ ts)) ≡ true) ⊎ (are_storable (scaled_terms k (t ∷ ts)) ≡ false)
    by_num true q a b =
        let z : unsigned_abs (scaled k t.1) ≡ 0 =
        unsigned_abs-mul t.1.num (pos (k / unsigned_abs t.1.den)) ∙ product_zero (unsigned_abs t.1.num) (k / unsigned_abs t.1.den) (zero_is (unsigned_abs t.1.num) q) in
        inl (rw (is_zero (unsigned_abs (scaled k t.1)) z))
    by_num false q a b = inr (rw (large_part t.1 k a b h (not_zero (unsigned_abs t.1.num) q)))

positive_terms : (ts : List (ℕ × Fraction)) → are_positive (denominators ts) ≡ list_all (λ t. nat_lt 0 (unsigned_abs t.1.den)) ts
positive_terms [] = refl
positive_terms (t ∷ ts) = ap (λ b. nat_lt 0 (unsigned_abs t.1.den) && b) (positive_terms ts)

small_den : (f : Fraction) → has_small_parts f ≡ true → unsigned_abs f.den ≤ 10 ^ 15
small_den f h = at_most (unsigned_abs f.den) (both (is_storable f.num) (is_storable f.den) h).1
  where
    at_most : (x : ℕ) → nat_le x (10 ^ 15) ≡ true → x ≤ 10 ^ 15
    at_most x r = grind (arith, nat_tests)

pub too_large : (ts : List (ℕ × Fraction)) (f : Fraction) → list_all (λ t. has_small_parts t.1) ts ≡ true → has_small_parts f ≡ true
    → are_positive (denominators ts) ≡ true → 1 ≤ unsigned_abs f.den → 2 ^ 127 ≤ scale_of ts f → are_numbers (scale_of ts f) ts f ≡ false
too_large [] f s g p d h =
    let one : nat_lt 0 (unsigned_abs f.den) ≡ true = above (unsigned_abs f.den) d in
    let b = least_scale_below (unsigned_abs f.den ∷ []) (unsigned_abs f.den) (and_true (nat_lt 0 (unsigned_abs f.den)) true one refl) d
    (and_true (is_multiple (unsigned_abs f.den) (unsigned_abs f.den)) true (is_divided (unsigned_abs f.den) (unsigned_abs f.den) (dvd_refl (unsigned_abs f.den))) refl) in
    absurd (omega (arith, b, small_den f g, h))
  where
    above : (x : ℕ) → 1 ≤ x → nat_lt 0 x ≡ true
    above x q = grind (arith, nat_tests)
too_large (t ∷ ts) f s g p d h =
    let k = scale_of (t ∷ ts) f in
    let terms = sorted_terms (t ∷ ts) in
    let a = list_all_sorted (λ u. has_small_parts u.1) [] (t ∷ ts) refl s in
    let b = list_all_sorted (λ u. nat_lt 0 (unsigned_abs u.1.den)) [] (t ∷ ts) refl (sym (positive_terms (t ∷ ts)) ∙ p) in
    let n = some_sorted (t ∷ []) ts refl in
    elim (zero_or_large k terms n a b h) [
      | inl z ↦ no_zero_wanted (list_all (λ u. has_small_parts u.1) (t ∷ ts)) (has_small_parts f) (has_zero (stored_terms k (t ∷ ts))) (are_storable (stored_terms k (t ∷ ts))) (is_storable (scaled k f)) z
      | inr w ↦ all_small_wanted (list_all (λ u. has_small_parts u.1) (t ∷ ts)) (has_small_parts f) (has_zero (stored_terms k (t ∷ ts))) (are_storable (stored_terms k (t ∷ ts))) (is_storable (scaled k f)) w
    ]

-- the denominators of terms from a place on
pub dens_at : (ts : List (ℕ × Fraction)) (i : ℕ) (t : ℕ × Fraction) → i < length ts → t ≡ get_or ts i t
    → denominators (drop i ts) ≡ unsigned_abs t.1.den ∷ denominators (drop (i + 1) ts)
dens_at ts i t h e = rw (add-one, drop-cons ts i t, ← e)

pub dens_end : (ts : List (ℕ × Fraction)) (i : ℕ) → length ts ≤ i → denominators (drop i ts) ≡ []
dens_end [] zero h = refl
dens_end (t ∷ ts) zero h = absurd (omega arith)
dens_end [] (suc i) h = refl
dens_end (t ∷ ts) (suc i) h = dens_end ts i (omega arith)

pub abs_positive : (z : ℤ) → pos 0 <ℤ z → 1 ≤ unsigned_abs z
abs_positive (pos n) h = omega (arith, ints)
abs_positive (negsuc n) h = absurd (omega (arith, ints))

pub abs_small : (z : ℤ) → FitsSigned w128 z → pos 0 <ℤ z → unsigned_abs z < 2 ^ 127
abs_small (pos n) f h = omega (arith, f.sfits)
abs_small (negsuc n) f h = absurd (omega (arith, ints))

pub with_number : (d : ℕ) (ds : List ℕ) → 1 ≤ d → are_positive ds ≡ true → are_positive (d ∷ ds) ≡ true
with_number d ds h k = and_true (nat_lt 0 d) (are_positive ds) (above d h) k
  where
    above : (x : ℕ) → 1 ≤ x → nat_lt 0 x ≡ true
    above x q = grind (arith, nat_tests)

-- numbers that are refused are so by this cause
pub refused_number : (known : Bool) (ts : List (ℕ × Fraction)) (f : Fraction) → has_id_twice ts ≡ false → known ≡ true
    → are_numbers (scale_of ts f) ts f ≡ false → refusal_of_terms known ts f None ≡ Some Number
refused_number known ts f a b c = rw (a, b, c)

-- what stands below the causes of terms decides where none of them holds, and only there
pub passes_below : {A : Type 0} (known : Bool) (ts : List (ℕ × Fraction)) (f : Fraction) (below : Option BuildError) (v w : A)
    → Ok w ≡ refused_or (refusal_of_terms known ts f None) v → refusal_of_terms known ts f below ≡ below
passes_below known ts f below v w h = by_tests (has_id_twice ts) (not (known)) (not (are_numbers (scale_of ts f) ts f)) h
  where
    by_tests : (a b c : Bool) → Ok w ≡ refused_or (refuse_if a NameTwice (refuse_if b NameUnknown (refuse_if c Number None))) v
        → refuse_if a NameTwice (refuse_if b NameUnknown (refuse_if c Number below)) ≡ below
    by_tests true b c q = cc
    by_tests false true c q = cc
    by_tests false false true q = cc
    by_tests false false false q = refl

pub refused_above : {A : Type 0} (known : Bool) (ts : List (ℕ × Fraction)) (f : Fraction) (below : Option BuildError) (v : A) (e : BuildError)
    → Err e ≡ refused_or (refusal_of_terms known ts f None) v → refusal_of_terms known ts f below ≡ Some e
refused_above known ts f below v e h = by_tests (has_id_twice ts) (not (known)) (not (are_numbers (scale_of ts f) ts f)) h
  where
    by_tests : (a b c : Bool) → Err e ≡ refused_or (refuse_if a NameTwice (refuse_if b NameUnknown (refuse_if c Number None))) v
        → refuse_if a NameTwice (refuse_if b NameUnknown (refuse_if c Number below)) ≡ Some e
    by_tests true b c q = cc
    by_tests false true c q = cc
    by_tests false false true q = cc
    by_tests false false false q = cc

-- the row that is made of stored numbers is the one that is stored
pub row_is_stored : (refusal : Option BuildError) (v s : Stored) (terms : List (ℕ × ℤ)) (number : ℤ) (rel : Rel) (row : RowValue) → OrMemory Memory (Ok s) (refused_or refusal v)
    → terms ≡ s.terms → number ≡ s.number → row_refusal s.terms s.number ≡ None → OrMemory row_error.Memory (Ok row) (row_made terms rel number)
    → OrMemory Memory (Ok row) (refused_or refusal (record { terms = v.terms; rel = rel; right = v.number }))
row_is_stored (Some e) v s terms number rel row a f g h m = elim a [ inl x ↦ cc | inr x ↦ cc ]
row_is_stored None v s terms number rel row a f g h m = elim a [ inl x ↦ elim m [ inl y ↦ inl (ap (λ (r : RowValue). Ok r) (made (ap stored_in x) y)) | inr y ↦ cc ] | inr x ↦ cc ]
  where
    stored_in : Result Stored BuildError → Stored
    stored_in (Ok z) = z
    stored_in (Err z) = s

    row_in : Result RowValue RowError → RowValue
    row_in (Ok z) = z
    row_in (Err z) = row

    made : s ≡ v → Ok row ≡ row_made terms rel number → row ≡ record { terms = v.terms; rel = rel; right = v.number }
    made x y =
        let z : row ≡ record { terms = s.terms; rel = rel; right = s.number } = ap row_in (rw (f, g, h) at y) in
        z ∙ ap (λ (i : Stored). record { terms = i.terms; rel = rel; right = i.number }) x

-- stored terms and a stored number make a row
pub ascends_scaled : (k least : ℕ) (ts : List (ℕ × Fraction)) → ascends_from least (scaled_terms k ts) ≡ ascends_from least ts
ascends_scaled k least [] = refl
ascends_scaled k least (t ∷ ts) = ap (λ b. nat_le least t.0 && b) (ascends_scaled k (suc t.0) ts)

pub row_made_of : (k : ℕ) (sorted : List (ℕ × Fraction)) (terms : List (ℕ × ℤ)) (number : ℤ) → ascends_from 0 sorted ≡ true → terms ≡ scaled_terms k sorted
    → has_zero terms ≡ false → are_storable terms ≡ true → is_storable number ≡ true → row_refusal terms number ≡ None
row_made_of k sorted terms number a e z s n =
    let o : ascends_from 0 terms ≡ true = ap (λ (l : List (ℕ × ℤ)). ascends_from 0 l) e ∙ ascends_scaled k 0 sorted ∙ a in rw (o, z, s, n)
