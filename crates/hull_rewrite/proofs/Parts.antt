-- The copies of a hull: met exactly where each copy is its variable where its indicator is is_on, and else 0, and the rest copy is what rest.
use Rattle.std.proofs.Common.{◌≡◌, ℕ, ℤ, pos, negsuc, neg_ℤ, ◌+ℤ◌, ◌-ℤ◌, ◌*ℤ◌, ◌≤ℤ◌, Bool, true, false, not, ◌&&◌, List, [], ◌∷◌, ◌++◌, arith, refl, ap, sym, subst, ◌∙◌, suc, zero, ◌+◌, ◌<◌}
use Rattle.std.specs.Prelude.{◌↔◌, if◌then◌else◌}
use Rattle.std.proofs.lemmas.Int.{ints}
use Rattle.lp_rows.specs.declared.kinds.Rel.TheVariants.{AtLeast, AtMost, Equal}
use Rattle.bigm_rewrite.proofs.Rows.{Columns, value-switched}
use Rattle.bigm_rewrite.specs.Relaxed.{Setting, guarded}
use Rattle.block_tree.specs.Satisfied.{PointOf, true_count}
use Rattle.block_tree.specs.Tree.{Disjuncts, disjunct, no_disjuncts}
use Rattle.emission.proofs.Meeting.{Booleans, Exact}
use Rattle.emission.proofs.Values.{meant-append, meets-append, minus_mul, row_at, value-column, value-number, value-plus}
use Rattle.emission.specs.Items.{AreMeant, Guard, Item, Meaning, Meets, col, copy, is_on, meant, rest, stand, where_true}
use Rattle.emission.specs.Sums.{Sum, column, minus, pick, plus, value}
use Rattle.hull_rewrite.specs.Copies.{all_copies, copy_part, high_of, is_zero, low_of, low_row, minus_copies, minus_rest, part, real, rest_part, rest_scale, rests, sums}
use Rattle.int_linear.proofs.Ring.{mul_zero, neg_mul}
use Rattle.milps.specs.Milps.{col_takes}
use Rattle.std.specs.Int.{from_bool}

-- ---- one part
pub record Between (l u x y : ℤ) : Type 0 where
  pub low : (l *ℤ y) ≤ℤ x
  pub high : x ≤ℤ (u *ℤ y)

low_value : (i : ℕ) (l : ℤ) (low : Sum) (y d : ℤ) (w : ℕ → ℤ) → value low d w ≡ neg_ℤ l *ℤ y → value (plus (column (pos 1) i) low) d w ≡ w i -ℤ l *ℤ y
low_value i l low y d w e = rw (value-plus (column (pos 1) i) low d w, value-column (pos 1) i d w, e, neg_mul l y) (omega (arith, ints))

real_says : (x d : ℤ) → (col_takes (real true) x d ≡ true) ↔ (pos 0 ≤ℤ x)
real_says x d = (λ h. grind (arith, ints), λ h. grind (arith, ints))

part_by : (t : Bool) (i : ℕ) (m : Meaning) (l u : ℤ) (low high : Sum) (y d : ℤ) (w : ℕ → ℤ) → (t ≡ true → l ≡ pos 0) → value low d w ≡ neg_ℤ l *ℤ y → value high d w ≡ neg_ℤ u *ℤ y →
    Meets (col i (real t) m ∷ (low_row t i low ++ (stand AtMost (plus (column (pos 1) i) high) ∷ []))) d w ↔ Between l u (w i) y
part_by true i m l u low high y d w z e f =
    let h = row_at AtMost (plus (column (pos 1) i) high) d w _ (low_value i u high y d w f) in
    let q : l *ℤ y ≡ pos 0 = rw (z refl) (omega (arith, ints)) in (
      λ x. record { low = (let a : pos 0 ≤ℤ w i = (real_says (w i) d).0 x.0 in omega (arith, ints)); high = (let a = h.0 x.1.0 in omega (arith, ints)) },
      λ b. let a = b.low in let c = b.high in ((real_says (w i) d).1 (omega (arith, ints)), (h.1 (omega (arith, ints)), tt)),
    )
part_by false i m l u low high y d w z e f =
    let h = row_at AtMost (plus (column (pos 1) i) high) d w _ (low_value i u high y d w f) in
    let g = row_at AtLeast (plus (column (pos 1) i) low) d w _ (low_value i l low y d w e) in (
      λ x. record { low = (let a : pos 0 ≤ℤ (w i -ℤ l *ℤ y) = g.0 x.1.0 in omega (arith, ints)); high = (let a : (w i -ℤ u *ℤ y) ≤ℤ pos 0 = h.0 x.1.1.0 in omega (arith, ints)) },
      λ b. let a = b.low in let c = b.high in (refl, (g.1 (omega (arith, ints)), (h.1 (omega (arith, ints)), tt))),
    )

pub is_zero_true : (z : ℤ) → is_zero z ≡ true → z ≡ pos 0
is_zero_true (pos zero) e = refl
is_zero_true (pos (suc n)) e = cc
is_zero_true (negsuc n) e = cc

pub meets_part : (i : ℕ) (m : Meaning) (l u : ℤ) (low high : Sum) (y d : ℤ) (w : ℕ → ℤ) → value low d w ≡ neg_ℤ l *ℤ y → value high d w ≡ neg_ℤ u *ℤ y →
    Meets (part i m l low high) d w ↔ Between l u (w i) y
meets_part i m l u low high y d w e f = part_by (is_zero l) i m l u low high y d w (is_zero_true l) e f

right_part_by : (t : Bool) (i : ℕ) (m : Meaning) (low high : Sum) (s : PointOf) (w : ℕ → ℤ) → w i ≡ meant s m → AreMeant (col i (real t) m ∷ (low_row t i low ++ (stand AtMost (plus (column (pos 1) i) high) ∷ []))) s w
right_part_by true i m low high s w e = (e, tt)
right_part_by false i m low high s w e = (e, tt)

pub right_part : (i : ℕ) (m : Meaning) (l : ℤ) (low high : Sum) (s : PointOf) (w : ℕ → ℤ) → w i ≡ meant s m → AreMeant (part i m l low high) s w
right_part i m l low high s w e = right_part_by (is_zero l) i m low high s w e

-- ---- how many indicators are true, as a sum
abbrev pub count_on : Disjuncts → PointOf → ℕ
count_on no_disjuncts s = 0
count_on (disjunct head b js) s = from_bool (s.truths head.indicator) + count_on js s

counted : (t : Bool) (n : ℕ) → from_bool t + n ≡ (if t then suc n else n)
counted true n = omega arith
counted false n = omega arith

pub count_is : (js : Disjuncts) (s : PointOf) → count_on js s ≡ true_count js s.truths
count_is no_disjuncts s = refl
count_is (disjunct head b js) s = rw (count_is js s) (counted (s.truths head.indicator) (true_count js s.truths))

-- ---- one variable over the disjuncts
abbrev pub AllKnown : ℕ → Disjuncts → Type 0
AllKnown u no_disjuncts = Unit {0}
AllKnown u (disjunct head b js) = (head.indicator < u) × AllKnown u js

abbrev pub Betweens : ℤ → ℤ → ℕ → ℕ → Disjuncts → PointOf → (ℕ → ℤ) → Type 0
Betweens l u size i no_disjuncts s w = Unit {0}
Betweens l u size i (disjunct head b js) s w = Between l u (w i) (pick (s.truths head.indicator) s.over) × Betweens l u size (i + size) js s w

abbrev pub Rights : ℤ → ℕ → ℕ → Disjuncts → PointOf → (ℕ → ℤ) → Type 0
Rights x size i no_disjuncts s w = Unit {0}
Rights x size i (disjunct head b js) s w = (w i ≡ pick (s.truths head.indicator) x) × Rights x size (i + size) js s w

abbrev pub copies_sum : ℕ → ℕ → Disjuncts → (ℕ → ℤ) → ℤ
copies_sum size i no_disjuncts w = pos 0
copies_sum size i (disjunct head b js) w = w i +ℤ copies_sum size (i + size) js w

value-minus_copies : (size i : ℕ) (js : Disjuncts) (d : ℤ) (w : ℕ → ℤ) → value (minus_copies size i js) d w ≡ neg_ℤ (copies_sum size i js w)
unfolding minus_copies
value-minus_copies size i no_disjuncts d w = rw (value-number (pos 0) d w) (omega (arith, ints))
value-minus_copies size i (disjunct head b js) d w =
    rw (value-plus (column minus i) (minus_copies size (i + size) js) d w, value-column minus i d w, minus_mul (w i), value-minus_copies size (i + size) js d w) (omega (arith, ints))

-- none is is_on: all are 0
pub none_zero : (b : Bool) (n : ℕ) → from_bool b + n ≡ 0 → (b ≡ false) × (n ≡ 0)
none_zero true n e = absurd (omega arith)
none_zero false n e = (refl, omega arith)

pub none_sum : (x : ℤ) (size i : ℕ) (js : Disjuncts) (s : PointOf) (w : ℕ → ℤ) → count_on js s ≡ 0 → Rights x size i js s w → copies_sum size i js w ≡ pos 0
none_sum x size i no_disjuncts s w e r = refl
none_sum x size i (disjunct head b js) s w e r =
    let z = none_zero (s.truths head.indicator) (count_on js s) e in
    let h : w i ≡ pos 0 = r.0 ∙ ap (λ t. pick t x) z.0 in
    let k = none_sum x size (i + size) js s w z.1 r.1 in omega (arith, ints)

pub squeezed : (l u x : ℤ) → Between l u x (pos 0) → x ≡ pos 0
squeezed l u x b = let p = b.low in let q = b.high in let m = mul_zero l in let n = mul_zero u in omega (arith, ints)

pub none_right : (l u x : ℤ) (size i : ℕ) (js : Disjuncts) (s : PointOf) (w : ℕ → ℤ) → count_on js s ≡ 0 → Betweens l u size i js s w → Rights x size i js s w
none_right l u x size i no_disjuncts s w e b = tt
none_right l u x size i (disjunct head k js) s w e b =
    let z = none_zero (s.truths head.indicator) (count_on js s) e in
    (squeezed l u (w i) (subst (λ t. Between l u (w i) (pick t s.over)) z.0 b.0) ∙ ap (λ t. pick t x) (sym z.0), none_right l u x size (i + size) js s w z.1 b.1)

-- one is is_on: it is the sum
one_sum_by : (t : Bool) (x : ℤ) (size i : ℕ) (js : Disjuncts) (s : PointOf) (w : ℕ → ℤ) → (count_on js s ≡ 1 → copies_sum size (i + size) js w ≡ x) →
    from_bool t + count_on js s ≡ 1 → w i ≡ pick t x → Rights x size (i + size) js s w → w i +ℤ copies_sum size (i + size) js w ≡ x
one_sum_by true x size i js s w f e h r = let k = none_sum x size (i + size) js s w (omega arith) r in omega (arith, ints)
one_sum_by false x size i js s w f e h r = let k = f (omega arith) in omega (arith, ints)

pub one_sum : (x : ℤ) (size i : ℕ) (js : Disjuncts) (s : PointOf) (w : ℕ → ℤ) → count_on js s ≡ 1 → Rights x size i js s w → copies_sum size i js w ≡ x
one_sum x size i no_disjuncts s w e r = absurd (omega arith)
one_sum x size i (disjunct head b js) s w e r = one_sum_by (s.truths head.indicator) x size i js s w (λ q. one_sum x size (i + size) js s w q r.1) e r.0 r.1

one_right_by : (t : Bool) (l u x : ℤ) (size i : ℕ) (js : Disjuncts) (s : PointOf) (w : ℕ → ℤ) → (count_on js s ≡ 1 → copies_sum size (i + size) js w ≡ x → Rights x size (i + size) js s w) →
    from_bool t + count_on js s ≡ 1 → Between l u (w i) (pick t s.over) → Betweens l u size (i + size) js s w →
    w i +ℤ copies_sum size (i + size) js w ≡ x → (w i ≡ pick t x) × Rights x size (i + size) js s w
one_right_by true l u x size i js s w f e b bs h =
    let r = none_right l u x size (i + size) js s w (omega arith) bs in
    let k = none_sum x size (i + size) js s w (omega arith) r in (omega (arith, ints), r)
one_right_by false l u x size i js s w f e b bs h =
    let z = squeezed l u (w i) b in (z, f (omega arith) (omega (arith, ints)))

pub one_right : (l u x : ℤ) (size i : ℕ) (js : Disjuncts) (s : PointOf) (w : ℕ → ℤ) → count_on js s ≡ 1 → Betweens l u size i js s w → copies_sum size i js w ≡ x → Rights x size i js s w
one_right l u x size i no_disjuncts s w e b h = absurd (omega arith)
one_right l u x size i (disjunct head k js) s w e b h =
    one_right_by (s.truths head.indicator) l u x size i js s w (λ q z. one_right l u x size (i + size) js s w q b.1 z) e b.0 b.1 h

pick_between : (t : Bool) (l u x v d : ℤ) → Between l u x d → v ≡ pick t x → Between l u v (pick t d)
pick_between true l u x v d b e = rw e b
pick_between false l u x v d b e = let m = mul_zero l in let n = mul_zero u in record { low = omega (arith, ints); high = omega (arith, ints) }

pub rights_between : (l u x : ℤ) (size i : ℕ) (js : Disjuncts) (s : PointOf) (w : ℕ → ℤ) → Between l u x s.over → Rights x size i js s w → Betweens l u size i js s w
rights_between l u x size i no_disjuncts s w b r = tt
rights_between l u x size i (disjunct head k js) s w b r =
    (pick_between (s.truths head.indicator) l u x (w i) s.over b r.0, rights_between l u x size (i + size) js s w b r.1)

-- the items of one variable
pub column_meets : (g : Setting) (j size i : ℕ) (js : Disjuncts) (s : PointOf) (w : ℕ → ℤ) → Booleans g.first g.booleans s w → AllKnown g.booleans js →
    Meets (all_copies g size i (j ∷ []) js) s.over w ↔ Betweens (low_of g j) (high_of g j) size i js s w
column_meets g j size i no_disjuncts s w b v = (λ h. tt, λ h. tt)
column_meets g j size i (disjunct head k js) s w b v =
    let m = meets-append (copy_part g i head.indicator j ++ []) (all_copies g size (i + size) (j ∷ []) js) s.over w in
    let n = meets-append (copy_part g i head.indicator j) [] s.over w in
    let p = meets_part i (copy j head.indicator) (low_of g j) (high_of g j) (guarded g.first (neg_ℤ (low_of g j)) (where_true head.indicator)) (guarded g.first (neg_ℤ (high_of g j)) (where_true head.indicator)) (pick (s.truths head.indicator) s.over) s.over w
    (value-switched g.first g.booleans (neg_ℤ (low_of g j)) (where_true head.indicator) s w b v.0) (value-switched g.first g.booleans (neg_ℤ (high_of g j)) (where_true head.indicator) s w b v.0) in
    let c = column_meets g j size (i + size) js s w b v.1 in
    (λ h. (p.0 (n.0 (m.0 h).0).0, c.0 (m.0 h).1), λ h. m.1 (n.1 (p.1 h.0, tt), c.1 h.1))

pub column_right : (g : Setting) (j size i : ℕ) (js : Disjuncts) (s : PointOf) (w : ℕ → ℤ) → AreMeant (all_copies g size i (j ∷ []) js) s w ↔ Rights (s.nums j) size i js s w
column_right g j size i no_disjuncts s w = (λ h. tt, λ h. tt)
column_right g j size i (disjunct head k js) s w =
    let m = meant-append (copy_part g i head.indicator j ++ []) (all_copies g size (i + size) (j ∷ []) js) s w in
    let n = meant-append (copy_part g i head.indicator j) [] s w in
    let c = column_right g j size (i + size) js s w in
    (λ h. ((n.0 (m.0 h).0).0.0, c.0 (m.0 h).1), λ h. m.1 (n.1 (right_part i (copy j head.indicator) _ _ _ s w h.0, tt), c.1 h.1))

rest_cases : (a t : Bool) (c d : ℤ) → (t ≡ true → a ≡ true) → neg_ℤ c *ℤ pick a d +ℤ c *ℤ pick t d ≡ neg_ℤ c *ℤ pick (a && not t) d
rest_cases true true c d p = simp (neg_mul, mul_zero) (omega (arith, ints))
rest_cases true false c d p = simp mul_zero (omega (arith, ints))
rest_cases false true c d p = absurd (let e = p refl in cc)
rest_cases false false c d p = simp mul_zero (omega (arith, ints))

pub rest_value : (g : Setting) (c : ℤ) (k t : Guard) (s : PointOf) (w : ℕ → ℤ) → Columns g k t s w → (is_on s t ≡ true → is_on s k ≡ true) →
    value (rest_scale g c k t) s.over w ≡ neg_ℤ c *ℤ pick (is_on s k && not (is_on s t)) s.over
rest_value g c k t s w b p =
    rw (value-plus (guarded g.first (neg_ℤ c) k) (guarded g.first c t) s.over w, value-switched g.first g.booleans (neg_ℤ c) k s w b.booleans b.scale, value-switched g.first g.booleans c t s w b.booleans b.switch)
    (rest_cases (is_on s k) (is_on s t) c s.over p)

pub sum_value : (i j size r : ℕ) (t : Bool) (js : Disjuncts) (d x : ℤ) (w : ℕ → ℤ) → value (minus_rest t r) d w ≡ neg_ℤ x →
    value (plus (column (pos 1) j) (plus (minus_copies size i js) (minus_rest t r))) d w ≡ w j -ℤ copies_sum size i js w -ℤ x
sum_value i j size r t js d x w e =
    rw (
      value-plus (column (pos 1) j) (plus (minus_copies size i js) (minus_rest t r)) d w,
      value-plus (minus_copies size i js) (minus_rest t r) d w,
      value-column (pos 1) j d w,
      value-minus_copies size i js d w,
      e,
    ) (omega (arith, ints))

pub rest_none : (r : ℕ) (d : ℤ) (w : ℕ → ℤ) → value (minus_rest true r) d w ≡ neg_ℤ (pos 0)
unfolding minus_rest
rest_none r d w = rw (value-number (pos 0) d w) (omega (arith, ints))

pub rest_some : (r : ℕ) (d : ℤ) (w : ℕ → ℤ) → value (minus_rest false r) d w ≡ neg_ℤ (w r)
unfolding minus_rest
rest_some r d w = rw (value-column minus r d w, minus_mul (w r)) refl

-- ---- one variable: its copies, its rest and its sum
-- without a rest, where the switch is the scale
pub variable_same : (l u x v : ℤ) (a : Bool) (size i : ℕ) (js : Disjuncts) (s : PointOf) (w : ℕ → ℤ) → count_on js s ≡ from_bool a → v ≡ pick a x → Between l u x s.over →
    (Betweens l u size i js s w × (v -ℤ copies_sum size i js w -ℤ pos 0 ≡ pos 0)) ↔ Rights x size i js s w
variable_same l u x v true size i js s w e f b = (
  λ h. one_right l u x size i js s w e h.0 (let z = h.1 in omega (arith, ints)),
  λ r. (rights_between l u x size i js s w b r, let z = one_sum x size i js s w e r in omega (arith, ints)),
)
variable_same l u x v false size i js s w e f b = (
  λ h. none_right l u x size i js s w e h.0,
  λ r. (rights_between l u x size i js s w b r, let z = none_sum x size i js s w e r in omega (arith, ints)),
)

pub record WithRest (l u v : ℤ) (a c : Bool) (size i r : ℕ) (js : Disjuncts) (s : PointOf) (w : ℕ → ℤ) : Type 0 where
  pub copied : Betweens l u size i js s w
  pub rest : Between l u (w r) (pick (a && not c) s.over)
  pub sum : v -ℤ copies_sum size i js w -ℤ w r ≡ pos 0

pub variable_rest : (l u x v : ℤ) (a c : Bool) (size i r : ℕ) (js : Disjuncts) (s : PointOf) (w : ℕ → ℤ) → count_on js s ≡ from_bool c → (c ≡ true → a ≡ true) → v ≡ pick a x → Between l u x s.over →
    WithRest l u v a c size i r js s w ↔ (Rights x size i js s w × (w r ≡ pick (a && not c) x))
variable_rest l u x v true true size i r js s w e p f b = (
  λ h. let q = squeezed l u (w r) h.rest in (one_right l u x size i js s w e h.copied (let z = h.sum in omega (arith, ints)), q),
  λ h. record { copied = rights_between l u x size i js s w b h.0; rest = pick_between false l u x (w r) s.over b h.1; sum = (let z = one_sum x size i js s w e h.0 in let y = h.1 in omega (arith, ints)) },
)
variable_rest l u x v false true size i r js s w e p f b = absurd (let z = p refl in cc)
variable_rest l u x v true false size i r js s w e p f b = (
  λ h. let n = none_right l u x size i js s w e h.copied in let k = none_sum x size i js s w e n in (n, (let z = h.sum in omega (arith, ints))),
  λ h. record { copied = rights_between l u x size i js s w b h.0; rest = pick_between true l u x (w r) s.over b h.1; sum = (let z = none_sum x size i js s w e h.0 in let y = h.1 in omega (arith, ints)) },
)
variable_rest l u x v false false size i r js s w e p f b = (
  λ h. let n = none_right l u x size i js s w e h.copied in let k = none_sum x size i js s w e n in (n, (let z = h.sum in omega (arith, ints))),
  λ h. record { copied = rights_between l u x size i js s w b h.0; rest = pick_between false l u x (w r) s.over b h.1; sum = (let z = none_sum x size i js s w e h.0 in let y = h.1 in omega (arith, ints)) },
)

-- ---- the items over a list of variables
abbrev pub laid : Setting → (ℕ → ℕ) → Bool → ℕ → ℕ → ℕ → Guard → Guard → Disjuncts → List ℕ → List Item
laid g f t size i r k c js vs = all_copies g size i vs js ++ (rests g t r k c vs ++ sums f t size i r vs js)

-- the items of one variable are met exactly where they are right
pub one_variable : (g : Setting) (f : ℕ → ℕ) (t : Bool) (size i r : ℕ) (k c : Guard) (js : Disjuncts) (j : ℕ) (s : PointOf) (w : ℕ → ℤ) →
    Columns g k c s w → AllKnown g.booleans js → count_on js s ≡ from_bool (is_on s c) → (is_on s c ≡ true → is_on s k ≡ true) → (t ≡ true → is_on s k ≡ is_on s c) → w (f j) ≡ pick (is_on s k) (s.nums j) → Between (low_of g j) (high_of g j) (s.nums j) s.over →
    Exact (laid g f t size i r k c js (j ∷ [])) true s w
one_variable g f true size i r k c js j s w bo v e p q h b =
    let m = column_meets g j size i js s w bo.booleans v in
    let n = column_right g j size i js s w in
    let cs = all_copies g size i (j ∷ []) js in
    let a = plus (column (pos 1) (f j)) (plus (minus_copies size i js) (minus_rest true r)) in
    let split = meets-append cs (stand Equal a ∷ []) s.over w in
    let splits = meant-append cs (stand Equal a ∷ []) s w in
    let ra = row_at Equal a s.over w _ (sum_value i (f j) size r true js s.over (pos 0) w (rest_none r s.over w)) in
    let vs = variable_same (low_of g j) (high_of g j) (s.nums j) (w (f j)) (is_on s k) size i js s w (e ∙ ap from_bool (sym (q refl))) h b in
    record {
      right = λ x. splits.1 (n.1 (vs.0 (m.0 (split.0 x).0, ra.0 (split.0 x).1.0)), tt);
      holds = λ x. refl;
      met = λ x z. let y = vs.1 (n.0 (splits.0 x).0) in split.1 (m.1 y.0, (ra.1 y.1, tt));
    }
one_variable g f false size i r k c js j s w bo v e p q h b =
    let m = column_meets g j size i js s w bo.booleans v in
    let n = column_right g j size i js s w in
    let cs = all_copies g size i (j ∷ []) js in
    let a = plus (column (pos 1) (f j)) (plus (minus_copies size i js) (minus_rest false r)) in
    let split = meets-append cs ((rest_part g r k c j ++ []) ++ (stand Equal a ∷ [])) s.over w in
    let splits = meant-append cs ((rest_part g r k c j ++ []) ++ (stand Equal a ∷ [])) s w in
    let split2 = meets-append (rest_part g r k c j ++ []) (stand Equal a ∷ []) s.over w in
    let splits2 = meant-append (rest_part g r k c j ++ []) (stand Equal a ∷ []) s w in
    let split3 = meets-append (rest_part g r k c j) [] s.over w in
    let splits3 = meant-append (rest_part g r k c j) [] s w in
    let ra = row_at Equal a s.over w _ (sum_value i (f j) size r false js s.over (w r) w (rest_some r s.over w)) in
    let rp = meets_part r (rest j k c) (low_of g j) (high_of g j) (rest_scale g (low_of g j) k c) (rest_scale g (high_of g j) k c) (pick (is_on s k && not (is_on s c)) s.over) s.over w
    (rest_value g (low_of g j) k c s w bo p) (rest_value g (high_of g j) k c s w bo p) in
    let vs = variable_rest (low_of g j) (high_of g j) (s.nums j) (w (f j)) (is_on s k) (is_on s c) size i r js s w e p h b in
    record {
      right = λ x. let y = split2.0 (split.0 x).1 in
          let z = vs.0 (record { copied = m.0 (split.0 x).0; rest = rp.0 (split3.0 y.0).0; sum = ra.0 y.1.0 }) in
          splits.1 (n.1 z.0, splits2.1 (splits3.1 (right_part r (rest j k c) (low_of g j) _ _ s w z.1, tt), tt));
      holds = λ x. refl;
      met = λ x z.
          let y = splits2.0 (splits.0 x).1 in
          let u = vs.1 (n.0 (splits.0 x).0, (splits3.0 y.0).0.0) in
          split.1 (m.1 u.copied, split2.1 (split3.1 (rp.1 u.rest, tt), (ra.1 u.sum, tt)));
    }
