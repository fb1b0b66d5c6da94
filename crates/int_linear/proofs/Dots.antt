-- The sum of a row's terms: linear in the numbers, and the inner product of the row's coefficients.
use Rattle.std.proofs.Common.{◌≡◌, ◌≢◌, ◌<◌, ◌≤◌, ◌==◌, ℕ, Bool, List, [], ◌∷◌, ◌++◌, ℤ, pos, ◌+ℤ◌, ◌-ℤ◌, ◌*ℤ◌, neg_ℤ, All, cond, true, false, arith, refl, ap, sym, ◌∙◌}
use Rattle.std.proofs.lemmas.Int.{ints}
use Rattle.std.proofs.lemmas.Bool.{eq-eqb, eqb-true, cond_both}
use Rattle.std.proofs.lemmas.List.Elements.{All-head, All-tail}
use Rattle.int_linear.specs.Sums.{inner}
use Rattle.int_linear.specs.Terms.{dot, coefficients, AllBelow, scaled}
use Rattle.int_linear.proofs.Ring.{products, mul_zero, zero_mul}
use Rattle.int_linear.proofs.Totals.{total_only}
use Rattle.int_linear.proofs.Inner.{inner_sum, inner_zero}

pub dot_add : (ts : List (ℕ × ℤ)) (v w : ℕ → ℤ) → dot ts (λ j. v j +ℤ w j) ≡ dot ts v +ℤ dot ts w
dot_add [] v w = refl
dot_add (t ∷ ts) v w =
    let i = dot_add ts v w in
    simp products (omega (arith, ints))

-- each number k times as large
pub dot_scale : (ts : List (ℕ × ℤ)) (k : ℤ) (v : ℕ → ℤ) → dot ts (λ j. k *ℤ v j) ≡ k *ℤ dot ts v
dot_scale [] k v = sym (mul_zero k)
dot_scale (t ∷ ts) k v =
    let i = dot_scale ts k v in
    simp products (omega (arith, ints))

pub dot_neg : (ts : List (ℕ × ℤ)) (v : ℕ → ℤ) → dot ts (λ j. neg_ℤ (v j)) ≡ neg_ℤ (dot ts v)
dot_neg [] v = refl
dot_neg (t ∷ ts) v =
    let i = dot_neg ts v in
    simp products (omega (arith, ints))

-- all numbers 0
pub dot_zero : (ts : List (ℕ × ℤ)) → dot ts (λ j. pos 0) ≡ pos 0
dot_zero [] = refl
dot_zero (t ∷ ts) =
    let i = dot_zero ts in
    let z = mul_zero t.1 in
    omega (arith, ints)

-- a combination of two lists of numbers
pub dot_combine : (ts : List (ℕ × ℤ)) (a b : ℤ) (v w : ℕ → ℤ) → dot ts (λ j. a *ℤ v j -ℤ b *ℤ w j) ≡ a *ℤ dot ts v -ℤ b *ℤ dot ts w
dot_combine [] a b v w =
    let p = mul_zero a in
    let q = mul_zero b in
    omega (arith, ints)
dot_combine (t ∷ ts) a b v w =
    let i = dot_combine ts a b v w in
    simp products (omega (arith, ints))

-- the terms of two rows one after the other
pub dot-append : (ts us : List (ℕ × ℤ)) (v : ℕ → ℤ) → dot (ts ++ us) v ≡ dot ts v +ℤ dot us v
dot-append [] us v = omega (arith, ints)
dot-append (t ∷ ts) us v =
    let i = dot-append ts us v in
    omega (arith, ints)

-- each coefficient k times as large
pub dot-scaled : (k : ℤ) (ts : List (ℕ × ℤ)) (v : ℕ → ℤ) → dot (scaled k ts) v ≡ k *ℤ dot ts v
dot-scaled k [] v = sym (mul_zero k)
dot-scaled k (t ∷ ts) v =
    let i = dot-scaled k ts v in
    simp products (omega (arith, ints))

-- numbers that agree at each term's place
pub dot_same : (ts : List (ℕ × ℤ)) (v w : ℕ → ℤ) → All (λ t. v t.0 ≡ w t.0) ts → dot ts v ≡ dot ts w
dot_same [] v w h = refl
dot_same (t ∷ ts) v w h =
    let i : dot ts v ≡ dot ts w = dot_same ts v w (All-tail (λ t. v t.0 ≡ w t.0) t ts h) in
    let e : t.1 *ℤ v t.0 ≡ t.1 *ℤ w t.0 = ap (λ z. t.1 *ℤ z) (All-head (λ t. v t.0 ≡ w t.0) t ts h) in
    omega (arith, ints)

-- numbers that agree below n, where the terms' places are
pub dot_same_below : (n : ℕ) (ts : List (ℕ × ℤ)) (v w : ℕ → ℤ) → AllBelow n ts → ((j : ℕ) → j < n → v j ≡ w j) → dot ts v ≡ dot ts w
dot_same_below n [] v w h s = refl
dot_same_below n (t ∷ ts) v w h s =
    let i : dot ts v ≡ dot ts w = dot_same_below n ts v w (All-tail (λ t. t.0 < n) t ts h) s in
    let e : t.1 *ℤ v t.0 ≡ t.1 *ℤ w t.0 = ap (λ z. t.1 *ℤ z) (s t.0 (All-head (λ t. t.0 < n) t ts h)) in
    omega (arith, ints)

-- elsewhere than at k
not_place : (k j : ℕ) (a : ℤ) → k ≢ j → cond (k == j) a (pos 0) ≡ pos 0
not_place k j a d = cond_both (k == j) a (pos 0) (λ z. z ≡ pos 0) (λ e. absurd (d (eqb-true k j e))) (λ e. refl)

-- a sum whose one number is a, at k
total_place : (n k : ℕ) (a : ℤ) (v : ℕ → ℤ) → k < n → inner n (λ j. cond (k == j) a (pos 0)) v ≡ a *ℤ v k
total_place n k a v p =
    let here : cond (k == k) a (pos 0) ≡ a = ap (λ b. cond b a (pos 0)) (eq-eqb k k refl) in
    total_only n k (λ j. cond (k == j) a (pos 0) *ℤ v j) p
    (λ j q r. ap (λ z. z *ℤ v j) (not_place k j a (λ e. r (sym e))) ∙ zero_mul (v j))
    ∙ ap (λ z. z *ℤ v k) here

-- the bridge: the sum of a row's terms is the inner product of its coefficients with the numbers
pub dot_is_inner : (n : ℕ) (ts : List (ℕ × ℤ)) (v : ℕ → ℤ) → AllBelow n ts → dot ts v ≡ inner n (coefficients ts) v
dot_is_inner n [] v h = sym (inner_zero n (λ j. pos 0) v (λ j p. refl))
dot_is_inner n (t ∷ ts) v h =
    let i : dot ts v ≡ inner n (coefficients ts) v = dot_is_inner n ts v (All-tail (λ t. t.0 < n) t ts h) in
    let s = inner_sum n (λ j. cond (t.0 == j) t.1 (pos 0)) (coefficients ts) v in
    let p = total_place n t.0 t.1 v (All-head (λ t. t.0 < n) t ts h) in
    omega (arith, ints)

-- where no term stands
pub coefficients_absent : (ts : List (ℕ × ℤ)) (j : ℕ) → All (λ t. t.0 ≢ j) ts → coefficients ts j ≡ pos 0
coefficients_absent [] j h = refl
coefficients_absent (t ∷ ts) j h =
    let i : coefficients ts j ≡ pos 0 = coefficients_absent ts j (All-tail (λ t. t.0 ≢ j) t ts h) in
    let e : cond (t.0 == j) t.1 (pos 0) ≡ pos 0 = not_place t.0 j t.1 (All-head (λ t. t.0 ≢ j) t ts h) in
    omega (arith, ints)

-- where one term stands alone
pub coefficients_alone : (t : ℕ × ℤ) (ts : List (ℕ × ℤ)) → All (λ u. u.0 ≢ t.0) ts → coefficients (t ∷ ts) t.0 ≡ t.1
coefficients_alone t ts h =
    let i : coefficients ts t.0 ≡ pos 0 = coefficients_absent ts t.0 h in
    let e : cond (t.0 == t.0) t.1 (pos 0) ≡ t.1 = ap (λ b. cond b t.1 (pos 0)) (eq-eqb t.0 t.0 refl) in
    omega (arith, ints)

-- the terms of two rows one after the other
pub coefficients-append : (ts us : List (ℕ × ℤ)) (j : ℕ) → coefficients (ts ++ us) j ≡ coefficients ts j +ℤ coefficients us j
coefficients-append [] us j = omega (arith, ints)
coefficients-append (t ∷ ts) us j =
    let i = coefficients-append ts us j in
    omega (arith, ints)

scaled_choice : (b : Bool) (k a : ℤ) → cond b (k *ℤ a) (pos 0) ≡ k *ℤ cond b a (pos 0)
scaled_choice true k a = refl
scaled_choice false k a = sym (mul_zero k)

-- each coefficient k times as large
pub coefficients-scaled : (k : ℤ) (ts : List (ℕ × ℤ)) (j : ℕ) → coefficients (scaled k ts) j ≡ k *ℤ coefficients ts j
coefficients-scaled k [] j = sym (mul_zero k)
coefficients-scaled k (t ∷ ts) j =
    let i = coefficients-scaled k ts j in
    let e : cond (t.0 == j) (k *ℤ t.1) (pos 0) ≡ k *ℤ cond (t.0 == j) t.1 (pos 0) = scaled_choice (t.0 == j) k t.1 in
    simp products (omega (arith, ints))

-- every place past the terms has 0
pub coefficients_past : (n : ℕ) (ts : List (ℕ × ℤ)) (j : ℕ) → AllBelow n ts → n ≤ j → coefficients ts j ≡ pos 0
coefficients_past n [] j h p = refl
coefficients_past n (t ∷ ts) j h p =
    let i : coefficients ts j ≡ pos 0 = coefficients_past n ts j (All-tail (λ t. t.0 < n) t ts h) p in
    let below : t.0 < n = All-head (λ t. t.0 < n) t ts h in
    let e : cond (t.0 == j) t.1 (pos 0) ≡ pos 0 = not_place t.0 j t.1 (omega arith) in
    omega (arith, ints)
