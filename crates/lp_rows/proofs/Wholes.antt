-- Whole numbers over a denominator are its multiples.
use Rattle.std.proofs.Common.{◌≡◌, ℕ, ℤ, pos, negsuc, neg_ℤ, ◌*ℤ◌, ◌<ℤ◌, true, arith, ap, sym, ◌∙◌, suc, zero, ◌+◌, ◌*◌, ◌/◌, ◌%◌}
use Rattle.std.proofs.Math.Nat.{mul-mod_left}
use Rattle.std.proofs.lemmas.Bool.Decides.{nat_tests}
use Rattle.std.proofs.lemmas.Int.{ints}
use Rattle.int_linear.proofs.Ring.{neg_mul}
use Rattle.lp_rows.specs.Kinds.{is_whole}

pub whole_by : (x d : ℤ) → pos 0 <ℤ d → is_whole x d ≡ true → (q : ℤ) × (x ≡ q *ℤ d)
whole_by (pos a) (pos (suc d)) p h =
    let e : a % suc d ≡ 0 = grind (arith, nat_tests) in
    let f : suc d * (a / suc d) + a % suc d ≡ a = omega arith in
    let g : a ≡ (a / suc d) * suc d = omega arith in
    (pos (a / suc d), ap pos g)
whole_by (negsuc a) (pos (suc d)) p h =
    let e : suc a % suc d ≡ 0 = grind (arith, nat_tests) in
    let f : suc d * (suc a / suc d) + suc a % suc d ≡ suc a = omega arith in
    let g : suc a ≡ (suc a / suc d) * suc d = omega arith in
    let k : neg_ℤ (pos (suc a)) ≡ neg_ℤ (pos (suc a / suc d) *ℤ pos (suc d)) = ap (λ n. neg_ℤ (pos n)) g in
    (neg_ℤ (pos (suc a / suc d)), k ∙ sym (neg_mul (pos (suc a / suc d)) (pos (suc d))))
whole_by x (pos zero) p h = absurd (omega (arith, ints))
whole_by x (negsuc d) p h = absurd (omega (arith, ints))

multiple_zero : (k n : ℕ) → (k * suc n) % suc n ≡ 0
multiple_zero k n = mul-mod_left k (suc n)

pub whole_back : (q d : ℤ) → pos 0 <ℤ d → is_whole (q *ℤ d) d ≡ true
whole_back (pos q) (pos (suc d)) p = let e = multiple_zero q d in grind (arith, nat_tests)
whole_back (negsuc q) (pos (suc d)) p = let e = multiple_zero (suc q) d in grind (arith, nat_tests)
whole_back q (pos zero) p = absurd (omega (arith, ints))
whole_back q (negsuc d) p = absurd (omega (arith, ints))
