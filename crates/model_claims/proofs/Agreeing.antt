-- Claims that are true of one model are one claim.
use Rattle.std.proofs.Common.{◌≡◌, ℕ, suc, ℤ, pos, negsuc, neg_ℤ, ◌+ℤ◌, ◌-ℤ◌, ◌*ℤ◌, ◌<ℤ◌, ◌≤ℤ◌, true, ◌&&◌, length, is_none, int_lt, unsigned_abs, refl, ◌∙◌, ap, arith}
use Rattle.std.proofs.lemmas.Int.{ints, by_lt_z}
use Rattle.fractions.specs.Fraction.{Fraction, IsLowest}
use Rattle.fractions.proofs.Reduction.{lowest_same}
use Rattle.int_linear.specs.Terms.{dot}
use Rattle.int_linear.proofs.Dots.{dot_add, dot_scale}
use Rattle.int_linear.proofs.Ring.{products, le_mul, le_cancel, mul_pos}
use Rattle.int_linear.proofs.Signs.{mul_negative}
use Rattle.lp_rows.specs.declared.kinds.Sense.{Sense}
use Rattle.lp_rows.specs.declared.kinds.Sense.TheVariants.{Min, Max}
use Rattle.lp_rows.specs.Holding.{ids_below}
use Rattle.point_tests.specs.Satisfied.{PointOf}
use Rattle.lp_rows.specs.Rows.{is_storable, row_refusal}
use Rattle.model_tree.specs.Sound.{IsSound}
use Rattle.model_tree.specs.Values.{GoalValue, ModelTree}
use Rattle.int_linear.proofs.Bools.{and_first, and_second}
use Rattle.model_claims.specs.Claims.{worth, IsBetter, along, IsBest, IsEndless, best, empty, endless}
use Rattle.model_claims.specs.Laws.{ClaimsAgree}

not_less : (a b : ℤ) → (a <ℤ b → ⊥) → b ≤ℤ a
not_less a b h = by_lt_z a b (λ l. absurd (h l)) (λ l. l)

pub scale_positive : (m : ModelTree) → IsSound m → pos 0 <ℤ m.goal.scale
scale_positive m s =
    let ids = ids_below (length m.vars) m.goal.terms in
    let row = is_none (row_refusal m.goal.terms m.goal.constant) in
    let above = int_lt (pos 0) m.goal.scale in
    less (and_second (ids && row) above (and_first (ids && row && above) (is_storable m.goal.scale) s.goal))
  where
    less : {z : ℤ} → int_lt (pos 0) z ≡ true → pos 0 <ℤ z
    less {z} e = grind (arith, ints)

cross : (num den : ℤ) (v w : Fraction) → v.num *ℤ den ≡ num *ℤ v.den → den *ℤ (v.num *ℤ w.den) ≡ v.den *ℤ (num *ℤ w.den)
cross num den v w e =
    let l : den *ℤ (v.num *ℤ w.den) ≡ v.num *ℤ den *ℤ w.den = simp products refl in
    let r : num *ℤ v.den *ℤ w.den ≡ v.den *ℤ (num *ℤ w.den) = simp products refl in
    l ∙ ap (λ z. z *ℤ w.den) e ∙ r

-- a value num / den that is v's is at most w's
lesser_by : (num den : ℤ) (v w : Fraction) → pos 0 <ℤ den → pos 0 <ℤ v.den → v.num *ℤ den ≡ num *ℤ v.den → (num *ℤ w.den) ≤ℤ (w.num *ℤ den) → (v.num *ℤ w.den) ≤ℤ (w.num *ℤ v.den)
lesser_by num den v w p q e h =
    let a = le_mul v.den (num *ℤ w.den) (w.num *ℤ den) (omega (arith, ints)) h in
    let b : den *ℤ (v.num *ℤ w.den) ≡ v.den *ℤ (num *ℤ w.den) = cross num den v w e in
    let c : den *ℤ (w.num *ℤ v.den) ≡ v.den *ℤ (w.num *ℤ den) = simp products refl in
    le_cancel den (v.num *ℤ w.den) (w.num *ℤ v.den) p (omega (arith, ints, a, b, c))

greater_by : (num den : ℤ) (v w : Fraction) → pos 0 <ℤ den → pos 0 <ℤ v.den → v.num *ℤ den ≡ num *ℤ v.den → (w.num *ℤ den) ≤ℤ (num *ℤ w.den) → (w.num *ℤ v.den) ≤ℤ (v.num *ℤ w.den)
greater_by num den v w p q e h =
    let a = le_mul v.den (w.num *ℤ den) (num *ℤ w.den) (omega (arith, ints)) h in
    let b : den *ℤ (v.num *ℤ w.den) ≡ v.den *ℤ (num *ℤ w.den) = cross num den v w e in
    let c : den *ℤ (w.num *ℤ v.den) ≡ v.den *ℤ (w.num *ℤ den) = simp products refl in
    le_cancel den (w.num *ℤ v.den) (v.num *ℤ w.den) p (omega (arith, ints, a, b, c))

-- where neither of two attained values is better, they are one
one_value : (s : Sense) (a b c d : ℤ) (v w : Fraction) → pos 0 <ℤ b → pos 0 <ℤ d → IsLowest v → IsLowest w → v.num *ℤ b ≡ a *ℤ v.den → w.num *ℤ d ≡ c *ℤ w.den
    → (IsBetter s (a *ℤ w.den) (w.num *ℤ b) → ⊥) → (IsBetter s (c *ℤ v.den) (v.num *ℤ d) → ⊥) → (v.num *ℤ w.den ≡ w.num *ℤ v.den)
one_value Min a b c d v w p q l k e f g h =
    let x = greater_by a b v w p l.positive e (not_less (a *ℤ w.den) (w.num *ℤ b) g) in
    let y = greater_by c d w v q k.positive f (not_less (c *ℤ v.den) (v.num *ℤ d) h) in
    omega (arith, ints, x, y)
one_value Max a b c d v w p q l k e f g h =
    let x = lesser_by a b v w p l.positive e (not_less (w.num *ℤ b) (a *ℤ w.den) g) in
    let y = lesser_by c d w v q k.positive f (not_less (v.num *ℤ d) (c *ℤ v.den) h) in
    omega (arith, ints, x, y)

same_fraction : (v w : Fraction) → (v.num ≡ w.num) × (v.den ≡ w.den) → v ≡ w
same_fraction v w e = let f : Fraction = record { num = w.num; den = v.den } in (λ i. record { num = e.0 i; den = e.1 i })

over_positive : (m : ModelTree) (p : PointOf) → IsSound m → pos 0 <ℤ p.over → pos 0 <ℤ (m.goal.scale *ℤ p.over)
over_positive m p s q = mul_pos m.goal.scale p.over (scale_positive m s) q

bests_agree : (m : ModelTree) (p q : PointOf) (v w : Fraction) → IsSound m → IsLowest v → IsLowest w → IsBest m p v → IsBest m q w → v ≡ w
bests_agree m p q v w s k l a b =
    same_fraction v w
    (lowest_same v.num v.den w.num w.den k l
    (one_value m.goal.sense (worth m.goal p) (m.goal.scale *ℤ p.over) (worth m.goal q) (m.goal.scale *ℤ q.over) v w (over_positive m p s a.point.over) (over_positive m q s b.point.over) k l a.value b.value
    (b.none_better p a.point) (a.none_better q b.point)))

-- what falls by a whole number at each step passes every number
no_floor : (a t e : ℤ) → e <ℤ pos 0 → ((k : ℕ) → t ≤ℤ (a +ℤ pos k *ℤ e)) → ⊥
no_floor a t e n h =
    let k : ℕ = suc (unsigned_abs (a -ℤ t)) in
    let b = le_mul (pos k) e (negsuc 0) (omega (arith, ints)) (omega (arith, ints)) in
    let c : pos k *ℤ negsuc 0 ≡ neg_ℤ (pos k) = minus k in
    let d : (a -ℤ t) ≤ℤ pos (unsigned_abs (a -ℤ t)) = size (a -ℤ t) in
    let f : pos k ≡ pos (unsigned_abs (a -ℤ t)) +ℤ pos 1 = next (unsigned_abs (a -ℤ t)) in
    let g = h k in
    omega (arith, ints, b, c, d, f, g)
  where
    minus : (k : ℕ) → pos k *ℤ negsuc 0 ≡ neg_ℤ (pos k)
    minus k = omega (arith, ints)

    size : (z : ℤ) → z ≤ℤ pos (unsigned_abs z)
    size (pos n) = omega (arith, ints)
    size (negsuc n) = omega (arith, ints)

    next : (k : ℕ) → pos (suc k) ≡ pos k +ℤ pos 1
    next k = omega (arith, ints)

no_top : (a t e : ℤ) → pos 0 <ℤ e → ((k : ℕ) → (a +ℤ pos k *ℤ e) ≤ℤ t) → ⊥
no_top a t e n h =
    no_floor (neg_ℤ a) (neg_ℤ t) (neg_ℤ e) (omega (arith, ints)) (λ k. let g = h k in let m : pos k *ℤ neg_ℤ e ≡ neg_ℤ (pos k *ℤ e) = simp products refl in omega (arith, ints, g, m))

-- an endless sequence of values has no best one
endless_by : (s : Sense) (value : ℕ → ℤ) (first d den : ℤ) (v : Fraction) → pos 0 <ℤ den → pos 0 <ℤ v.den → ((k : ℕ) → value k ≡ first +ℤ pos k *ℤ d)
    → IsBetter s (value 1) (value 0) → ((k : ℕ) → IsBetter s (value k *ℤ v.den) (v.num *ℤ den) → ⊥) → ⊥
endless_by Min value first d den v p q e b n =
    let x : d <ℤ pos 0 = falls in
    no_floor (first *ℤ v.den) (v.num *ℤ den) (v.den *ℤ d) (mul_negative v.den d q x)
    (λ k. let g = not_less (value k *ℤ v.den) (v.num *ℤ den) (n k) in let f : value k *ℤ v.den ≡ first *ℤ v.den +ℤ pos k *ℤ (v.den *ℤ d) = ap (λ z. z *ℤ v.den) (e k) ∙ simp products refl in omega (arith, ints, g, f))
  where
    falls : d <ℤ pos 0
    falls =
        let y = e 1 in
        let z = e 0 in
        let one : pos 1 *ℤ d ≡ d = simp products refl in
        let none : pos 0 *ℤ d ≡ pos 0 = simp products refl in
        omega (arith, ints, b, y, z, one, none)
endless_by Max value first d den v p q e b n =
    let x : pos 0 <ℤ d = rises in
    no_top (first *ℤ v.den) (v.num *ℤ den) (v.den *ℤ d) (mul_pos v.den d q x)
    (λ k. let g = not_less (v.num *ℤ den) (value k *ℤ v.den) (n k) in let f : value k *ℤ v.den ≡ first *ℤ v.den +ℤ pos k *ℤ (v.den *ℤ d) = ap (λ z. z *ℤ v.den) (e k) ∙ simp products refl in omega (arith, ints, g, f))
  where
    rises : pos 0 <ℤ d
    rises =
        let y = e 1 in
        let z = e 0 in
        let one : pos 1 *ℤ d ≡ d = simp products refl in
        let none : pos 0 *ℤ d ≡ pos 0 = simp products refl in
        omega (arith, ints, b, y, z, one, none)

-- the goal's sum grows by the same number at each step
worth_along : (g : GoalValue) (p : PointOf) (ray : ℕ → ℤ) (k : ℕ) → worth g (along p ray k) ≡ worth g p +ℤ pos k *ℤ (p.over *ℤ dot g.terms ray)
worth_along g p ray k =
    let a = dot_add g.terms p.nums (λ j. pos k *ℤ p.over *ℤ ray j) in
    let b = dot_scale g.terms (pos k *ℤ p.over) ray in
    let c : pos k *ℤ p.over *ℤ dot g.terms ray ≡ pos k *ℤ (p.over *ℤ dot g.terms ray) = simp products refl in
    omega (arith, ints, a, b, c)

best_not_endless : (m : ModelTree) (p q : PointOf) (v : Fraction) (ray : ℕ → ℤ) → IsSound m → IsLowest v → IsBest m p v → IsEndless m q ray → ⊥
best_not_endless m p q v ray s l a b =
    endless_by m.goal.sense (λ k. worth m.goal (along q ray k)) (worth m.goal q) (q.over *ℤ dot m.goal.terms ray) (m.goal.scale *ℤ q.over) v (over_positive m q s (b 0).point.over) l.positive
    (worth_along m.goal q ray) (b 0).better (λ k. a.none_better (along q ray k) (b k).point)

pub claims_agree : ClaimsAgree
claims_agree m (best p v) (best q w) s k l a b = bests_agree m p q v w s k l a b
claims_agree m (best p v) empty s k l a b = b p a.point
claims_agree m (best p v) (endless q ray) s k l a b = best_not_endless m p q v ray s k a b
claims_agree m empty (best q w) s k l a b = a q b.point
claims_agree m empty empty s k l a b = tt
claims_agree m empty (endless q ray) s k l a b = a (along q ray 0) (b 0).point
claims_agree m (endless p ray) (best q w) s k l a b = best_not_endless m q p w ray s l b a
claims_agree m (endless p ray) empty s k l a b = b (along p ray 0) (a 0).point
claims_agree m (endless p ray) (endless q step) s k l a b = tt
