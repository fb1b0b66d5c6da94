-- Terms with the other sign.
use Rattle.std.proofs.Common.{◌≡◌, ℕ, suc, ◌+◌, ◌≤◌, ◌<◌, ◌^◌, ℤ, neg_ℤ, Bool, true, false, not, ◌&&◌, nat_le, nat_lt, List, [], ◌∷◌, ◌++◌, length, get_or, drop, refl, ap, arith, append_assoc, unsigned_abs, None}
use Rattle.std.proofs.lemmas.Bool.Decides.{nat_tests}
use Rattle.std.proofs.lemmas.Int.{ints}
use Rattle.lp_rows.specs.Holding.{ids_below}
use Rattle.lp_rows.specs.Rows.{are_storable, ascends_from, has_zero, is_storable, row_refusal}
use Rattle.outcomes.specs.Calls.{refuse_if}
use Rattle.lp_rows.specs.declared.rows.RowError.TheVariants.{Order, Zero, Coefficient}
use Rattle.milps.proofs.Columned.{and_left, and_right}
use Rattle.bound_propagation.specs.Boxes.{turned}
use Rattle.bound_propagation.proofs.Greatest.{level}

pub turned_more : (done ts : List (ℕ × ℤ)) (i : ℕ) (t : ℕ × ℤ) → i < length ts → t ≡ get_or ts i t →
    (done ++ (t.0, neg_ℤ t.1) ∷ []) ++ turned (drop (i + 1) ts) ≡ done ++ turned (drop i ts)
turned_more done ts i t h e = rw (level ts i t h e) (append_assoc done ((t.0, neg_ℤ t.1) ∷ []) (turned (drop (i + 1) ts)))

pub turned_length : (ts : List (ℕ × ℤ)) → length (turned ts) ≡ length ts
turned_length [] = refl
turned_length (t ∷ ts) = ap suc (turned_length ts)

pub turned_below : (n : ℕ) (ts : List (ℕ × ℤ)) → ids_below n (turned ts) ≡ ids_below n ts
turned_below n [] = refl
turned_below n (t ∷ ts) = ap (λ b. nat_lt t.0 n && b) (turned_below n ts)

abs_neg : (z : ℤ) → unsigned_abs (neg_ℤ z) ≡ unsigned_abs z
abs_neg z = omega (arith, ints)

pub turned_storable : (ts : List (ℕ × ℤ)) → are_storable (turned ts) ≡ are_storable ts
turned_storable [] = refl
turned_storable (t ∷ ts) = rw (abs_neg t.1, turned_storable ts) refl

-- ---- what a stored row keeps
ascent : (n least : ℕ) (ts : List (ℕ × ℤ)) → least ≤ n → ascends_from least ts ≡ true → ids_below n ts ≡ true → least + length ts ≤ n
ascent n least [] h a b = omega arith
ascent n least (t ∷ ts) h a b =
    let p = and_left (nat_le least t.0) (ascends_from (suc t.0) ts) a in
    let q = and_left (nat_lt t.0 n) (ids_below n ts) b in
    let x : least ≤ t.0 = grind (arith, nat_tests) in
    let y : t.0 < n = grind (arith, nat_tests) in
    let k = ascent n (suc t.0) ts (omega arith) (and_right (nat_le least t.0) (ascends_from (suc t.0) ts) a) (and_right (nat_lt t.0 n) (ids_below n ts) b) in
    omega (arith, k, x)

pub few_terms : (n : ℕ) (ts : List (ℕ × ℤ)) → n ≤ 500 → ascends_from 0 ts ≡ true → ids_below n ts ≡ true → length ts ≤ 500
few_terms n ts h a b = let k = ascent n 0 ts (omega arith) a b in omega (arith, k)

pub record IsRow (ts : List (ℕ × ℤ)) (right : ℤ) : Type 0 where
  pub ascends : ascends_from 0 ts ≡ true
  pub storable : are_storable ts ≡ true
  pub small : unsigned_abs right ≤ 10 ^ 15

row_by : (a z b : Bool) → refuse_if (not a) Order (refuse_if z Zero (refuse_if (not b) Coefficient None)) ≡ None → (a ≡ true) × (b ≡ true)
row_by true false true h = (refl, refl)
row_by true false false h = cc
row_by true true b h = cc
row_by false z b h = cc

pub row_kept : (ts : List (ℕ × ℤ)) (right : ℤ) → row_refusal ts right ≡ None → IsRow ts right
row_kept ts right h =
    let k = row_by (ascends_from 0 ts) (has_zero ts) (are_storable ts && is_storable right) h in
    let s = and_right (are_storable ts) (is_storable right) k.1 in
    record { ascends = k.0; storable = and_left (are_storable ts) (is_storable right) k.1; small = grind (arith, nat_tests) }

pub right_small : (ts : List (ℕ × ℤ)) (right : ℤ) → row_refusal ts right ≡ None → unsigned_abs right ≤ 10 ^ 15
right_small ts right h = (row_kept ts right h).small

pub row_storable : (ts : List (ℕ × ℤ)) (right : ℤ) → row_refusal ts right ≡ None → are_storable ts ≡ true
row_storable ts right h = (row_kept ts right h).storable

pub row_few : (n : ℕ) (ts : List (ℕ × ℤ)) (right : ℤ) → row_refusal ts right ≡ None → n ≤ 500 → ids_below n ts ≡ true → length ts ≤ 500
row_few n ts right h f b = few_terms n ts f (row_kept ts right h).ascends b
