-- The floor of a number that is not whole, and the next whole number, are not the least or the greatest of 128 bits.
use Rattle.std.proofs.Common.{◌≡◌, ◌<◌, ◌^◌, ℕ, zero, suc, ◌+◌, ℤ, pos, negsuc, neg_ℤ, ◌+ℤ◌, ◌*ℤ◌, ◌≤ℤ◌, ◌<ℤ◌, true, false, List, [], ◌∷◌, nat_lt, unsigned_abs, refl, sym, ◌∙◌, ap, subst, arith}
use Rattle.std.proofs.lemmas.Int.{ints}
use Rattle.std.proofs.lemmas.Bool.Decides.{nat_tests}
use Rattle.std.specs.Int.{int_div_euclid, int_rem_euclid}
use Rattle.std.specs.List.{list_all}
use Rattle.fractions.specs.Width.{fits}
use Rattle.fractions.proofs.Division.{divided}
use Rattle.int_linear.specs.Sums.{at}
use Rattle.int_linear.proofs.Ring.{le_mul, neg_mul, add_mul, one_mul, products}
use Rattle.fractions.specs.Width.{is_narrow}
use Rattle.lp_rows.specs.Kinds.{is_whole}
use Rattle.model_tree.proofs.Bools.{first_holds, second_holds}
use Rattle.lp_rows.proofs.Wholes.{whole_back}

test_lt : (a b : ℕ) → nat_lt a b ≡ true → a < b
test_lt a b h = grind (arith, nat_tests)

lt_test : (a b : ℕ) → a < b → nat_lt a b ≡ true
lt_test a b h = grind (arith, nat_tests)

twice : (a : ℤ) → a *ℤ (pos 1 +ℤ pos 1) ≡ a +ℤ a
twice a = simp products refl

-- the size of a floor against the number's
floor_up : (n p : ℕ) (over r number : ℤ) → 2 < p → number ≡ pos n *ℤ over +ℤ r → pos 0 <ℤ r → r <ℤ over → number ≤ℤ pos p → n + 1 < p
floor_up n p over r number l e a b h =
    let m = le_mul (pos n) (pos 1 +ℤ pos 1) over (omega (arith, ints)) (omega (arith, ints, a, b)) in
    let t = twice (pos n) in
    let g : (pos n +ℤ pos n) ≤ℤ pos p = omega (arith, ints, m, t, e, a, h) in
    omega (arith, ints, g, l)

floor_down : (n p : ℕ) (over r number : ℤ) → 2 < p → number ≡ negsuc n *ℤ over +ℤ r → pos 0 <ℤ r → r <ℤ over → neg_ℤ (pos p) ≤ℤ number → suc n < p
floor_down n p over r number l e a b h =
    let m = le_mul (pos n) (pos 1 +ℤ pos 1) over (omega (arith, ints)) (omega (arith, ints, a, b)) in
    let t = twice (pos n) in
    let i : negsuc n ≡ neg_ℤ (pos n +ℤ pos 1) = omega (arith, ints) in
    let f : negsuc n *ℤ over ≡ neg_ℤ (pos n *ℤ over +ℤ over) = ap (λ y. y *ℤ over) i ∙ neg_mul (pos n +ℤ pos 1) over ∙ ap neg_ℤ (add_mul (pos n) (pos 1) over ∙ ap (λ y. pos n *ℤ over +ℤ y) (one_mul over)) in
    let g : (pos n +ℤ pos n) <ℤ pos p = omega (arith, ints, m, t, e, f, a, b, h) in
    omega (arith, ints, g, l)

sized : (z : ℤ) (p : ℕ) (over r number : ℤ) → 2 < p → number ≡ z *ℤ over +ℤ r → pos 0 <ℤ r → r <ℤ over → number ≤ℤ pos p → neg_ℤ (pos p) ≤ℤ number → (unsigned_abs z < p) × (unsigned_abs (z +ℤ pos 1) < p)
sized (pos n) p over r number l e a b h k = let f = floor_up n p over r number l e a b h in (omega (arith, ints, f), grind (arith, ints))
sized (negsuc n) p over r number l e a b h k = let f = floor_down n p over r number l e a b k in (grind (arith, ints), grind (arith, ints))

fits_up : (z : ℤ) (p : ℕ) → p ≡ 2 ^ 127 → fits z ≡ true → z ≤ℤ pos p
fits_up (pos n) p e h = let l = test_lt n (2 ^ 127) h in let k : n < p = subst (λ q. n < q) (sym e) l in omega (arith, ints, k)
fits_up (negsuc n) p e h = omega (arith, ints)

fits_down : (z : ℤ) (p : ℕ) → p ≡ 2 ^ 127 → fits z ≡ true → neg_ℤ (pos p) ≤ℤ z
fits_down (pos n) p e h = omega (arith, ints)
fits_down (negsuc n) p e h = let l = test_lt n (2 ^ 127) h in let k : n < p = subst (λ q. n < q) (sym e) l in omega (arith, ints, k)

rest_some : (number over : ℤ) → pos 0 <ℤ over → is_whole number over ≡ false → int_rem_euclid number over ≡ pos 0 → ⊥
rest_some number over p h e =
    let d = (divided number over p).whole in
    let f : number ≡ int_div_euclid number over *ℤ over = omega (arith, ints, d, e) in
    let w : is_whole number over ≡ true = ap (λ y. is_whole y over) f ∙ whole_back (int_div_euclid number over) over p in
    let x : true ≡ false = sym w ∙ h in
    cc

floor_of : (p : ℕ) → p ≡ 2 ^ 127 → (number over : ℤ) → pos 0 <ℤ over → fits number ≡ true → is_whole number over ≡ false
    → (unsigned_abs (int_div_euclid number over) < p) × (unsigned_abs (int_div_euclid number over +ℤ pos 1) < p)
floor_of p is number over q f h =
    let d = divided number over q in
    let low = d.low in
    let rest = rest_some number over q h in
    let some : pos 0 <ℤ int_rem_euclid number over = positive (int_rem_euclid number over) low rest in
    sized (int_div_euclid number over) p over (int_rem_euclid number over) number (subst (λ n. 2 < n) (sym is) (test_lt 2 (2 ^ 127) refl)) d.whole some d.high (fits_up number p is f) (fits_down number p is f)
  where
    positive : (z : ℤ) → pos 0 ≤ℤ z → (z ≡ pos 0 → ⊥) → pos 0 <ℤ z
    positive (pos zero) l n = absurd (n refl)
    positive (pos (suc k)) l n = omega (arith, ints)
    positive (negsuc k) l n = absurd (omega (arith, ints, l))

pub floor_narrow : (number over : ℤ) → pos 0 <ℤ over → fits number ≡ true → is_whole number over ≡ false
    → (is_narrow (int_div_euclid number over) ≡ true) × (is_narrow (int_div_euclid number over +ℤ pos 1) ≡ true)
floor_narrow number over q f h =
    let s = floor_of (2 ^ 127) refl number over q f h in
    (lt_test (unsigned_abs (int_div_euclid number over)) (2 ^ 127) s.0, lt_test (unsigned_abs (int_div_euclid number over +ℤ pos 1)) (2 ^ 127) s.1)

pub fits_at : (xs : List ℤ) (j : ℕ) → list_all fits xs ≡ true → fits (at xs j) ≡ true
fits_at [] j h = refl
fits_at (x ∷ xs) zero h = first_holds (fits x) (list_all fits xs) h
fits_at (x ∷ xs) (suc j) h = fits_at xs j (second_holds (fits x) (list_all fits xs) h)
