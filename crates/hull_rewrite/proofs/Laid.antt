-- Expansions are met exactly where each column is what it stands for and the variables lie where the scale says.
use Rattle.std.proofs.Common.{◌≡◌, ℕ, ℤ, pos, ◌-ℤ◌, Bool, true, false, not, ◌&&◌, nat_eq, nat_lt, List, [], ◌∷◌, ◌++◌, length, arith, refl, ap, sym, subst, ◌∙◌, suc, ◌+◌, ◌<◌}
use Rattle.std.specs.Prelude.{◌↔◌}
use Rattle.std.specs.Int.{from_bool}
use Rattle.std.proofs.lemmas.Int.{ints}
use Rattle.std.proofs.lemmas.Bool.Decides.{nat_tests}
use Rattle.int_linear.proofs.Ring.{mul_zero}
use Rattle.lp_rows.specs.declared.kinds.Rel.TheVariants.{Equal}
use Rattle.milps.proofs.Columned.{and_left, and_right, or_left, or_right}
use Rattle.block_tree.specs.Satisfied.{PointOf}
use Rattle.block_tree.specs.Tree.{Disjuncts, disjunct, no_disjuncts}
use Rattle.bigm_rewrite.proofs.Rows.{Columns, Known}
use Rattle.bigm_rewrite.specs.Relaxed.{Setting, is_same_guard}
use Rattle.emission.proofs.Values.{meant-append, meets-append, row_at}
use Rattle.emission.specs.Items.{AreMeant, Guard, Meets, always, is_on, rest, stand, where_true}
use Rattle.emission.specs.Sums.{column, pick, plus}
use Rattle.hull_rewrite.proofs.Expansion.{laid_apart, laid_none, meets_split, right_split}
use Rattle.hull_rewrite.proofs.Parts.{AllKnown, Between, Betweens, Rights, WithRest, column_meets, column_right, copies_sum, count_is, count_on, laid, meets_part, none_right, none_sum, none_zero, one_right, one_sum, rest_none, rest_some, rest_value, right_part, rights_between, squeezed, sum_value}
use Rattle.hull_rewrite.specs.Copies.{all_copies, high_of, low_of, minus_copies, minus_rest, rest_part, rest_scale, times_size}
use Rattle.hull_rewrite.specs.Distinct.{stands_in}
use Rattle.hull_rewrite.specs.Expanded.{are_indicators_below}
use Rattle.hull_rewrite.specs.Meant.{AreWithin, ExpansionsAreExact, is_guard_below}

-- ---- where one is on, its copy lies where the variable does; where none is, all are 0
one_between_by : (t : Bool) (l u x y d : ℤ) (n : ℕ) → (n ≡ 1 → Between l u x d) → from_bool t + n ≡ 1 → Between l u y (pick t d) → y ≡ pick t x → Between l u x d
one_between_by true l u x y d n f e b h = subst (λ z. Between l u z d) h b
one_between_by false l u x y d n f e b h = f (omega arith)

one_between : (l u x : ℤ) (size i : ℕ) (js : Disjuncts) (s : PointOf) (w : ℕ → ℤ) → count_on js s ≡ 1 → Betweens l u size i js s w → Rights x size i js s w → Between l u x s.over
one_between l u x size i no_disjuncts s w e b r = absurd (omega arith)
one_between l u x size i (disjunct head k js) s w e b r =
    one_between_by (s.truths head.indicator) l u x (w i) s.over (count_on js s) (λ q. one_between l u x size (i + size) js s w q b.1 r.1) e b.0 r.0

zero_between : (l u x : ℤ) → x ≡ pos 0 → Between l u x (pos 0)
zero_between l u x e = let m = mul_zero l in let n = mul_zero u in record { low = omega (arith, ints); high = omega (arith, ints) }

off_between : (t : Bool) (l u x y d : ℤ) → t ≡ false → y ≡ pick t x → Between l u y (pick t d)
off_between true l u x y d z e = cc
off_between false l u x y d z e = zero_between l u y e

none_between : (l u x : ℤ) (size i : ℕ) (js : Disjuncts) (s : PointOf) (w : ℕ → ℤ) → count_on js s ≡ 0 → Rights x size i js s w → Betweens l u size i js s w
none_between l u x size i no_disjuncts s w e r = tt
none_between l u x size i (disjunct head k js) s w e r =
    let z = none_zero (s.truths head.indicator) (count_on js s) e in
    (off_between (s.truths head.indicator) l u x (w i) s.over z.0 r.0, none_between l u x size (i + size) js s w z.1 r.1)

-- ---- one variable, without a rest and with one
copied_alone : (l u x v : ℤ) (a : Bool) (size i : ℕ) (js : Disjuncts) (s : PointOf) (w : ℕ → ℤ) → count_on js s ≡ from_bool a → v ≡ x →
    (Betweens l u size i js s w × (v -ℤ copies_sum size i js w -ℤ pos 0 ≡ pos 0)) ↔ (Rights x size i js s w × Between l u x (pick a s.over))
copied_alone l u x v true size i js s w e f = (
  λ h.
      let z = h.1 in
      let y : copies_sum size i js w ≡ x = omega (arith, ints) in
      let r = one_right l u x size i js s w e h.0 y in
      (r, one_between l u x size i js s w e h.0 r),
  λ h. (rights_between l u x size i js s w h.1 h.0, let z = one_sum x size i js s w e h.0 in omega (arith, ints)),
)
copied_alone l u x v false size i js s w e f = (
  λ h.
      let r = none_right l u x size i js s w e h.0 in
      let z = none_sum x size i js s w e r in
      let y = h.1 in
      (r, zero_between l u x (omega (arith, ints))),
  λ h.
      let z = squeezed l u x h.1 in
      let y = none_sum x size i js s w e h.0 in
      (none_between l u x size i js s w e h.0, omega (arith, ints)),
)

copied_rest : (l u x v : ℤ) (a c : Bool) (size i r : ℕ) (js : Disjuncts) (s : PointOf) (w : ℕ → ℤ) → count_on js s ≡ from_bool c → (c ≡ true → a ≡ true) → v ≡ x →
    WithRest l u v a c size i r js s w ↔ ((Rights x size i js s w × (w r ≡ pick (a && not c) x)) × Between l u x (pick a s.over))
copied_rest l u x v true true size i r js s w e p f = (
  λ h.
      let q = squeezed l u (w r) h.rest in
      let z = h.sum in
      let y : copies_sum size i js w ≡ x = omega (arith, ints) in
      let k = one_right l u x size i js s w e h.copied y in
      ((k, q), one_between l u x size i js s w e h.copied k),
  λ h. record { copied = rights_between l u x size i js s w h.1 h.0.0; rest = zero_between l u (w r) h.0.1; sum = (let z = one_sum x size i js s w e h.0.0 in let y = h.0.1 in omega (arith, ints)) },
)
copied_rest l u x v false true size i r js s w e p f = absurd (let z = p refl in cc)
copied_rest l u x v true false size i r js s w e p f = (
  λ h.
      let n = none_right l u x size i js s w e h.copied in
      let k = none_sum x size i js s w e n in
      let z = h.sum in
      let y : w r ≡ x = omega (arith, ints) in
      ((n, y), subst (λ t. Between l u t s.over) y h.rest),
  λ h. record { copied = none_between l u x size i js s w e h.0.0; rest = subst (λ t. Between l u t s.over) (sym h.0.1) h.1; sum = (let z = none_sum x size i js s w e h.0.0 in let y = h.0.1 in omega (arith, ints)) },
)
copied_rest l u x v false false size i r js s w e p f = (
  λ h.
      let n = none_right l u x size i js s w e h.copied in
      let k = none_sum x size i js s w e n in
      let q = squeezed l u (w r) h.rest in
      let z = h.sum in
      ((n, q), zero_between l u x (omega (arith, ints))),
  λ h.
      let z = squeezed l u x h.1 in
      record { copied = none_between l u x size i js s w e h.0.0; rest = zero_between l u (w r) h.0.1; sum = (let k = none_sum x size i js s w e h.0.0 in let y = h.0.1 in omega (arith, ints)) },
)

-- ---- the items of one variable
one_says : (g : Setting) (f : ℕ → ℕ) (t : Bool) (size i r : ℕ) (k c : Guard) (js : Disjuncts) (j : ℕ) (s : PointOf) (w : ℕ → ℤ) →
    Columns g k c s w → AllKnown g.booleans js → count_on js s ≡ from_bool (is_on s c) → (is_on s c ≡ true → is_on s k ≡ true) → (t ≡ true → is_on s k ≡ is_on s c) → w (f j) ≡ s.nums j →
    Meets (laid g f t size i r k c js (j ∷ [])) s.over w ↔ (AreMeant (laid g f t size i r k c js (j ∷ [])) s w × Between (low_of g j) (high_of g j) (s.nums j) (pick (is_on s k) s.over))
one_says g f true size i r k c js j s w bo v e p q h =
    let m = column_meets g j size i js s w bo.booleans v in
    let n = column_right g j size i js s w in
    let cs = all_copies g size i (j ∷ []) js in
    let a = plus (column (pos 1) (f j)) (plus (minus_copies size i js) (minus_rest true r)) in
    let split = meets-append cs (stand Equal a ∷ []) s.over w in
    let splits = meant-append cs (stand Equal a ∷ []) s w in
    let ra = row_at Equal a s.over w _ (sum_value i (f j) size r true js s.over (pos 0) w (rest_none r s.over w)) in
    let vs = copied_alone (low_of g j) (high_of g j) (s.nums j) (w (f j)) (is_on s k) size i js s w (e ∙ ap from_bool (sym (q refl))) h in (
      λ x. let y = vs.0 (m.0 (split.0 x).0, ra.0 (split.0 x).1.0) in (splits.1 (n.1 y.0, tt), y.1),
      λ x. let y = vs.1 (n.0 (splits.0 x.0).0, x.1) in split.1 (m.1 y.0, (ra.1 y.1, tt)),
    )
one_says g f false size i r k c js j s w bo v e p q h =
    let m = column_meets g j size i js s w bo.booleans v in
    let n = column_right g j size i js s w in
    let cs = all_copies g size i (j ∷ []) js in
    let a = plus (column (pos 1) (f j)) (plus (minus_copies size i js) (minus_rest false r)) in
    let split = meets-append cs ((rest_part g r k c j ++ []) ++ (stand Equal a ∷ [])) s.over w in
    let splits = meant-append cs ((rest_part g r k c j ++ []) ++ (stand Equal a ∷ [])) s w in
    let split2 = meets-append (rest_part g r k c j ++ []) (stand Equal a ∷ []) s.over w in
    let splits2 = meant-append (rest_part g r k c j ++ []) (stand Equal a ∷ []) s w in
    let split3 = meets-append (rest_part g r k c j) [] s.over w in
    let splits3 = meant-append (rest_part g r k c j) [] s w in
    let ra = row_at Equal a s.over w _ (sum_value i (f j) size r false js s.over (w r) w (rest_some r s.over w)) in
    let rp = meets_part r (rest j k c) (low_of g j) (high_of g j) (rest_scale g (low_of g j) k c) (rest_scale g (high_of g j) k c) (pick (is_on s k && not (is_on s c)) s.over) s.over w
    (rest_value g (low_of g j) k c s w bo p) (rest_value g (high_of g j) k c s w bo p) in
    let vs = copied_rest (low_of g j) (high_of g j) (s.nums j) (w (f j)) (is_on s k) (is_on s c) size i r js s w e p h in (
      λ x.
          let y = split2.0 (split.0 x).1 in
          let z = vs.0 (record { copied = m.0 (split.0 x).0; rest = rp.0 (split3.0 y.0).0; sum = ra.0 y.1.0 }) in
          (splits.1 (n.1 z.0.0, splits2.1 (splits3.1 (right_part r (rest j k c) (low_of g j) _ _ s w z.0.1, tt), tt)), z.1),
      λ x.
          let y = splits2.0 (splits.0 x.0).1 in
          let u = vs.1 ((n.0 (splits.0 x.0).0, (splits3.0 y.0).0.0), x.1) in
          split.1 (m.1 u.copied, split2.1 (split3.1 (rp.1 u.rest, tt), (ra.1 u.sum, tt))),
    )

-- ---- all variables
nat_eq_refl : (n : ℕ) → nat_eq n n ≡ true
nat_eq_refl n = grind (arith, nat_tests)

all_say : (g : Setting) (f : ℕ → ℕ) (t : Bool) (size i r : ℕ) (k c : Guard) (js : Disjuncts) (vs : List ℕ) (s : PointOf) (w : ℕ → ℤ) →
    Columns g k c s w → AllKnown g.booleans js → count_on js s ≡ from_bool (is_on s c) → (is_on s c ≡ true → is_on s k ≡ true) → (t ≡ true → is_on s k ≡ is_on s c) → ((j : ℕ) → stands_in j vs ≡ true → w (f j) ≡ s.nums j) →
    Meets (laid g f t size i r k c js vs) s.over w ↔ (AreMeant (laid g f t size i r k c js vs) s w × AreWithin g s (is_on s k) vs)
all_say g f t size i r k c js [] s w bo v e p q h = (
  λ x. (laid_none (λ is. AreMeant is s w) (right_split s w) g f t size i r k c js, tt),
  λ x. laid_none (λ is. Meets is s.over w) (meets_split s w) g f t size i r k c js,
)
all_say g f t size i r k c js (j ∷ vs) s w bo v e p q h =
    let m = laid_apart (λ is. Meets is s.over w) (meets_split s w) g f t size i r k c js j vs in
    let n = laid_apart (λ is. AreMeant is s w) (right_split s w) g f t size i r k c js j vs in
    let one = one_says g f t size i r k c js j s w bo v e p q (h j (or_left (nat_eq j j) (stands_in j vs) (nat_eq_refl j))) in
    let others = all_say g f t size (suc i) (suc r) k c js vs s w bo v e p q (λ x y. h x (or_right (nat_eq x j) (stands_in x vs) y)) in (
      λ x. let y = one.0 (m.0 x).0 in let z = others.0 (m.0 x).1 in (n.1 (y.0, z.0), (record { low = y.1.low; high = y.1.high }, z.1)),
      λ x. m.1 (one.1 ((n.0 x.0).0, record { low = x.1.0.low; high = x.1.0.high }), others.1 ((n.0 x.0).1, x.1.1)),
    )

-- ---- the law
same_on : (s : PointOf) (k c : Guard) → is_same_guard k c ≡ true → is_on s k ≡ is_on s c
same_on s always always e = refl
same_on s always (where_true k) e = cc
same_on s (where_true j) always e = cc
same_on s (where_true j) (where_true k) e = let h : j ≡ k = grind (arith, nat_tests) in ap s.truths h

known : (n : ℕ) (k : Guard) → is_guard_below n k ≡ true → Known n k
known n always e = tt
known n (where_true k) e = grind (arith, nat_tests)

less : (k n : ℕ) → nat_lt k n ≡ true → k < n
less k n e = grind (arith, nat_tests)

all_known : (n : ℕ) (js : Disjuncts) → are_indicators_below n js ≡ true → AllKnown n js
all_known n no_disjuncts e = tt
all_known n (disjunct head b js) e = (less head.indicator n (and_left (nat_lt head.indicator n) (are_indicators_below n js) e), all_known n js (and_right (nat_lt head.indicator n) (are_indicators_below n js) e))

pub expansions_are_exact : ExpansionsAreExact
expansions_are_exact g f k c n vs js s w o =
    all_say g f (is_same_guard k c) (length vs) n (n + times_size (length vs) js) k c js vs s w
    (record { booleans = o.truths; scale = known g.booleans k o.scale_known; switch = known g.booleans c o.guard_known })
    (all_known g.booleans js o.indicators) (count_is js s ∙ o.counted) o.within_scale (same_on s k c) o.nums
