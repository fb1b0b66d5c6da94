-- The halves of a path, the bounds that they set and what they make known.
use Rattle.std.proofs.Common.{◌≡◌, ◌<◌, ◌≤◌, ℕ, zero, suc, ◌+◌, ℤ, pos, neg_ℤ, ◌+ℤ◌, ◌*ℤ◌, ◌≤ℤ◌, ◌<ℤ◌, Bool, true, false, List, [], ◌∷◌, ◌++◌, length, All, Option, None, Some, nat_eq, nat_lt, int_le, if◌then◌else◌, refl, sym, subst, arith}
use lib.IntN.{*ℤ_comm}
use Rattle.std.proofs.lemmas.Int.{ints}
use Rattle.std.proofs.lemmas.Bool.Decides.{nat_tests}
use Rattle.std.proofs.lemmas.List.Elements.{All-nil, All-append, All-head}
use Rattle.int_linear.proofs.Ring.{le_mul, one_mul, neg_mul}
use Rattle.gdp_tables.specs.declared.tri.Tri.{Tri}
use Rattle.gdp_tables.specs.declared.tri.Tri.TheVariants.{No, Open}
use Rattle.gdp_tables.specs.Completions.{Completes}
use Rattle.lp_rows.specs.declared.kinds.Kind.{Kind}
use Rattle.proof_tree.specs.declared.path.Split.{Split}
use Rattle.proof_tree.specs.declared.path.Split.TheVariants.{Int, Truth}
use Rattle.proof_tree.specs.declared.path.Half.{Half}
use Rattle.point_tests.specs.Satisfied.{PointOf}
use Rattle.model_tree.specs.Variables.{VarValue}
use Rattle.model_tree.specs.Values.{ModelTree}
use Rattle.model_forces.specs.Paths.{tri_of_half, tri_after, tris_on, tris_at, least_of, greatest_of, high_after, low_after, high_on, low_on, IsInHalf, IsOnPath, kind_at, MayStand, IsPathOf}
use Rattle.model_forces.specs.Forces.{single, path_low, path_high, rows_of_path}
use Rattle.model_forces.proofs.Holding.{all_left, all_right, all_one, le_of}
use Rattle.model_forces.proofs.InForce.{Holds}

-- the number is at most the high and at least the low over the denominator, where there is one
abbrev IsUnder : Option ℤ → ℤ → ℤ → Type 0
IsUnder None x over = Unit {0}
IsUnder (Some z) x over = x ≤ℤ (z *ℤ over)

abbrev IsOver : Option ℤ → ℤ → ℤ → Type 0
IsOver None x over = Unit {0}
IsOver (Some z) x over = (z *ℤ over) ≤ℤ x

pub scale_le : (a b over : ℤ) → pos 0 <ℤ over → a ≤ℤ b → (a *ℤ over) ≤ℤ (b *ℤ over)
scale_le a b over p h = let m = le_mul over a b (omega (arith, ints, p)) h in let e = *ℤ_comm over a in let f = *ℤ_comm over b in omega (arith, ints, m, e, f)

-- the lesser of two highs, and the greater of two lows
under_by : (b : Bool) (z y x over : ℤ) → x ≤ℤ (z *ℤ over) → x ≤ℤ (y *ℤ over) → x ≤ℤ ((if b then z else y) *ℤ over)
under_by true z y x over h k = h
under_by false z y x over h k = k

over_by : (b : Bool) (z y x over : ℤ) → (z *ℤ over) ≤ℤ x → (y *ℤ over) ≤ℤ x → ((if b then y else z) *ℤ over) ≤ℤ x
over_by true z y x over h k = k
over_by false z y x over h k = h

under_least : (z : ℤ) (o : Option ℤ) (x over : ℤ) → x ≤ℤ (z *ℤ over) → IsUnder o x over → x ≤ℤ (least_of z o *ℤ over)
under_least z None x over h k = h
under_least z (Some y) x over h k = under_by (int_le z y) z y x over h k

over_greatest : (z : ℤ) (o : Option ℤ) (x over : ℤ) → (z *ℤ over) ≤ℤ x → IsOver o x over → (greatest_of z o *ℤ over) ≤ℤ x
over_greatest z None x over h k = h
over_greatest z (Some y) x over h k = over_by (int_le z y) z y x over h k

-- and each of the two
lesser : (b : Bool) (z y : ℤ) → int_le z y ≡ b → ((if b then z else y) ≤ℤ z) × ((if b then z else y) ≤ℤ y)
lesser true z y e = (omega (arith, ints), le_of z y e)
lesser false z y e = (grind (arith, ints), omega (arith, ints))

greater : (b : Bool) (z y : ℤ) → int_le z y ≡ b → (z ≤ℤ (if b then y else z)) × (y ≤ℤ (if b then y else z))
greater true z y e = (le_of z y e, omega (arith, ints))
greater false z y e = (omega (arith, ints), grind (arith, ints))

under_each : (z : ℤ) (o : Option ℤ) (x over : ℤ) → pos 0 <ℤ over → x ≤ℤ (least_of z o *ℤ over) → (x ≤ℤ (z *ℤ over)) × IsUnder o x over
under_each z None x over p h = (h, tt)
under_each z (Some y) x over p h =
    let l = lesser (int_le z y) z y refl in
    let a = scale_le (if int_le z y then z else y) z over p l.0 in
    let b = scale_le (if int_le z y then z else y) y over p l.1 in
    (omega (arith, ints, h, a), omega (arith, ints, h, b))

over_each : (z : ℤ) (o : Option ℤ) (x over : ℤ) → pos 0 <ℤ over → (greatest_of z o *ℤ over) ≤ℤ x → ((z *ℤ over) ≤ℤ x) × IsOver o x over
over_each z None x over p h = (h, tt)
over_each z (Some y) x over p h =
    let l = greater (int_le z y) z y refl in
    let a = scale_le z (if int_le z y then y else z) over p l.0 in
    let b = scale_le y (if int_le z y then y else z) over p l.1 in
    (omega (arith, ints, h, a), omega (arith, ints, h, b))

eq_is : (a b : ℕ) → nat_eq a b ≡ true → a ≡ b
eq_is a b h = grind (arith, nat_tests)

is_eq : (a : ℕ) → nat_eq a a ≡ true
is_eq a = grind (arith, nat_tests)

-- a point on the path keeps the tightest bounds
high_by : (b : Bool) (c j : ℕ) (z : ℤ) (o : Option ℤ) (p : PointOf) → nat_eq c j ≡ b → p.nums c ≤ℤ (z *ℤ p.over) → IsUnder o (p.nums j) p.over → IsUnder (if b then Some (least_of z o) else o) (p.nums j) p.over
high_by true c j z o p e h k = under_least z o (p.nums j) p.over (subst (λ i. p.nums i ≤ℤ (z *ℤ p.over)) (eq_is c j e) h) k
high_by false c j z o p e h k = k

low_by : (b : Bool) (c j : ℕ) (z : ℤ) (o : Option ℤ) (p : PointOf) → nat_eq c j ≡ b → (z *ℤ p.over) ≤ℤ p.nums c → IsOver o (p.nums j) p.over → IsOver (if b then Some (greatest_of z o) else o) (p.nums j) p.over
low_by true c j z o p e h k = over_greatest z o (p.nums j) p.over (subst (λ i. (z *ℤ p.over) ≤ℤ p.nums i) (eq_is c j e) h) k
low_by false c j z o p e h k = k

high_half : (s : Split) (second : Bool) (j : ℕ) (o : Option ℤ) (p : PointOf) → IsInHalf s second p → IsUnder o (p.nums j) p.over → IsUnder (high_after s second j o) (p.nums j) p.over
high_half (Int c z) true j o p h k = k
high_half (Int c z) false j o p h k = high_by (nat_eq c j) c j z o p refl h k
high_half (Truth id) second j o p h k = k

low_half : (s : Split) (second : Bool) (j : ℕ) (o : Option ℤ) (p : PointOf) → IsInHalf s second p → IsOver o (p.nums j) p.over → IsOver (low_after s second j o) (p.nums j) p.over
low_half (Int c z) true j o p h k = low_by (nat_eq c j) c j (z +ℤ pos 1) o p refl h k
low_half (Int c z) false j o p h k = k
low_half (Truth id) second j o p h k = k

highs_on : (path : List Half) (p : PointOf) (j : ℕ) → IsOnPath path p → IsUnder (high_on path j) (p.nums j) p.over
highs_on [] p j h = tt
highs_on (s ∷ path) p j h = high_half s.split s.second j (high_on path j) p h.0 (highs_on path p j h.1)

lows_on : (path : List Half) (p : PointOf) (j : ℕ) → IsOnPath path p → IsOver (low_on path j) (p.nums j) p.over
lows_on [] p j h = tt
lows_on (s ∷ path) p j h = low_half s.split s.second j (low_on path j) p h.0 (lows_on path p j h.1)

-- the rows of the path's bounds
high_row : (o : Option ℤ) (j : ℕ) (p : PointOf) → IsUnder o (p.nums j) p.over → All (Holds p) (path_high o j)
high_row None j p h = All-nil (Holds p)
high_row (Some z) j p h = all_one (Holds p) (single j (pos 1) z) (let e = one_mul (p.nums j) in omega (arith, ints, h, e))

low_row : (o : Option ℤ) (j : ℕ) (p : PointOf) → IsOver o (p.nums j) p.over → All (Holds p) (path_low o j)
low_row None j p h = All-nil (Holds p)
low_row (Some z) j p h =
    all_one (Holds p) (single j (neg_ℤ (pos 1)) (neg_ℤ z))
    (let e = one_mul (p.nums j) in let f = neg_mul (pos 1) (p.nums j) in let g = neg_mul z p.over in omega (arith, ints, h, e, f, g))

high_row_back : (o : Option ℤ) (j : ℕ) (p : PointOf) → All (Holds p) (path_high o j) → IsUnder o (p.nums j) p.over
high_row_back None j p h = tt
high_row_back (Some z) j p h = let a = All-head (Holds p) (single j (pos 1) z) [] h in let e = one_mul (p.nums j) in omega (arith, ints, a, e)

low_row_back : (o : Option ℤ) (j : ℕ) (p : PointOf) → All (Holds p) (path_low o j) → IsOver o (p.nums j) p.over
low_row_back None j p h = tt
low_row_back (Some z) j p h =
    let a = All-head (Holds p) (single j (neg_ℤ (pos 1)) (neg_ℤ z)) [] h in
    let e = one_mul (p.nums j) in
    let f = neg_mul (pos 1) (p.nums j) in
    let g = neg_mul z p.over in
    omega (arith, ints, a, e, f, g)

pub path_rows_into : (vs : List VarValue) (j : ℕ) (path : List Half) (p : PointOf) → IsOnPath path p → All (Holds p) (rows_of_path vs j path)
path_rows_into [] j path p h = All-nil (Holds p)
path_rows_into (v ∷ vs) j path p h =
    All-append (Holds p) (path_low (low_on path j) j) (path_high (high_on path j) j ++ rows_of_path vs (j + 1) path) (low_row (low_on path j) j p (lows_on path p j h))
    (All-append (Holds p) (path_high (high_on path j) j) (rows_of_path vs (j + 1) path) (high_row (high_on path j) j p (highs_on path p j h)) (path_rows_into vs (j + 1) path p h))

-- the bounds that a path sets on variable j
abbrev AreBounds : List Half → PointOf → ℕ → Type 0
AreBounds path p j = IsOver (low_on path j) (p.nums j) p.over × IsUnder (high_on path j) (p.nums j) p.over

bounds_back : (vs : List VarValue) (j : ℕ) (path : List Half) (p : PointOf) → All (Holds p) (rows_of_path vs j path) → (i : ℕ) → i < length vs → AreBounds path p (j + i)
bounds_back [] j path p h i l = absurd (omega arith)
bounds_back (v ∷ vs) j path p h zero l =
    let low = path_low (low_on path j) j in
    let high = path_high (high_on path j) j in
    let more = rows_of_path vs (j + 1) path in
    let same : j ≡ j + 0 = omega arith in
    subst (AreBounds path p) same
    (low_row_back (low_on path j) j p (all_left (Holds p) low (high ++ more) h), high_row_back (high_on path j) j p (all_left (Holds p) high more (all_right (Holds p) low (high ++ more) h)))
bounds_back (v ∷ vs) j path p h (suc i) l =
    let low = path_low (low_on path j) j in
    let high = path_high (high_on path j) j in
    let more = rows_of_path vs (j + 1) path in
    let same : j + 1 + i ≡ j + suc i = omega arith in
    subst (AreBounds path p) same (bounds_back vs (j + 1) path p (all_right (Holds p) high more (all_right (Holds p) low (high ++ more) h)) i (omega arith))

kind_below : (vs : List VarValue) (j : ℕ) (k : Kind) → kind_at vs j ≡ Some k → j < length vs
kind_below [] j k e = cc
kind_below (v ∷ vs) zero k e = omega arith
kind_below (v ∷ vs) (suc j) k e = let l = kind_below vs j k e in omega arith

-- what a path makes known, of a point on it
after_by : (b : Bool) (id k : ℕ) (second : Bool) (before : Tri) (p : PointOf) → nat_eq id k ≡ b → IsInHalf (Truth id) second p → Completes (p.truths k) before → Completes (p.truths k) (if b then tri_of_half second else before)
after_by true id k true before p e h c = subst (λ i. p.truths i ≡ false) (eq_is id k e) h
after_by true id k false before p e h c = subst (λ i. p.truths i ≡ true) (eq_is id k e) h
after_by false id k second before p e h c = c

after_half : (s : Split) (second : Bool) (k : ℕ) (before : Tri) (p : PointOf) → IsInHalf s second p → Completes (p.truths k) before → Completes (p.truths k) (tri_after s second k before)
after_half (Int c z) second k before p h c' = c'
after_half (Truth id) second k before p h c = after_by (nat_eq id k) id k second before p refl h c

pub on_completes : (path : List Half) (p : PointOf) (k : ℕ) → IsOnPath path p → Completes (p.truths k) (tris_on path k)
on_completes [] p k h = tt
on_completes (s ∷ path) p k h = after_half s.split s.second k (tris_on path k) p h.0 (on_completes path p k h.1)

-- back, on a path of the model
own_by : (b : Bool) (id : ℕ) (second : Bool) (before : Tri) (p : PointOf) → b ≡ true → Completes (p.truths id) (if b then tri_of_half second else before) → IsInHalf (Truth id) second p
own_by true id true before p e c = c
own_by true id false before p e c = c
own_by false id second before p e c = let x : false ≡ true = e in cc

earlier_by : (b : Bool) (id k : ℕ) (second : Bool) (before : Tri) (p : PointOf) → nat_eq id k ≡ b → (id ≡ k → before ≡ Open) → Completes (p.truths k) (if b then tri_of_half second else before) → Completes (p.truths k) before
earlier_by true id k second before p e o c = subst (Completes (p.truths k)) (sym (o (eq_is id k e))) tt
earlier_by false id k second before p e o c = c

earlier : (m : ModelTree) (path : List Half) (s : Split) (second : Bool) (p : PointOf) (k : ℕ) → MayStand m path s → Completes (p.truths k) (tri_after s second k (tris_on path k)) → Completes (p.truths k) (tris_on path k)
earlier m path (Int c z) second p k a h = h
earlier m path (Truth id) second p k a h =
    earlier_by (nat_eq id k) id k second (tris_on path k) p refl (λ e. subst (λ i. tris_on path i ≡ Open) e a.1) h

high_here : (b : Bool) (c : ℕ) (z : ℤ) (o : Option ℤ) (p : PointOf) → b ≡ true → pos 0 <ℤ p.over → IsUnder (if b then Some (least_of z o) else o) (p.nums c) p.over → p.nums c ≤ℤ (z *ℤ p.over)
high_here true c z o p e q h = (under_each z o (p.nums c) p.over q h).0
high_here false c z o p e q h = let x : false ≡ true = e in cc

low_here : (b : Bool) (c : ℕ) (z : ℤ) (o : Option ℤ) (p : PointOf) → b ≡ true → pos 0 <ℤ p.over → IsOver (if b then Some (greatest_of z o) else o) (p.nums c) p.over → (z *ℤ p.over) ≤ℤ p.nums c
low_here true c z o p e q h = (over_each z o (p.nums c) p.over q h).0
low_here false c z o p e q h = let x : false ≡ true = e in cc

high_before : (b : Bool) (z x over : ℤ) (o : Option ℤ) → pos 0 <ℤ over → IsUnder (if b then Some (least_of z o) else o) x over → IsUnder o x over
high_before true z x over o q h = (under_each z o x over q h).1
high_before false z x over o q h = h

low_before : (b : Bool) (z x over : ℤ) (o : Option ℤ) → pos 0 <ℤ over → IsOver (if b then Some (greatest_of z o) else o) x over → IsOver o x over
low_before true z x over o q h = (over_each z o x over q h).1
low_before false z x over o q h = h

bounds_earlier : (s : Split) (second : Bool) (path : List Half) (p : PointOf) (j : ℕ) → pos 0 <ℤ p.over
    → IsOver (low_after s second j (low_on path j)) (p.nums j) p.over × IsUnder (high_after s second j (high_on path j)) (p.nums j) p.over → AreBounds path p j
bounds_earlier (Int c z) true path p j q h = (low_before (nat_eq c j) (z +ℤ pos 1) (p.nums j) p.over (low_on path j) q h.0, h.1)
bounds_earlier (Int c z) false path p j q h = (h.0, high_before (nat_eq c j) z (p.nums j) p.over (high_on path j) q h.1)
bounds_earlier (Truth id) second path p j q h = h

in_half : (m : ModelTree) (path : List Half) (s : Split) (second : Bool) (p : PointOf) → MayStand m path s → pos 0 <ℤ p.over
    → ((j : ℕ) → j < length m.vars → IsOver (low_after s second j (low_on path j)) (p.nums j) p.over × IsUnder (high_after s second j (high_on path j)) (p.nums j) p.over)
    → ((k : ℕ) → k < length m.booleans → Completes (p.truths k) (tri_after s second k (tris_on path k))) → IsInHalf s second p
in_half m path (Int c z) true p a q h t = low_here (nat_eq c c) c (z +ℤ pos 1) (low_on path c) p (is_eq c) q (h c (kind_below m.vars c _ a.0)).0
in_half m path (Int c z) false p a q h t = high_here (nat_eq c c) c z (high_on path c) p (is_eq c) q (h c (kind_below m.vars c _ a.0)).1
in_half m path (Truth id) second p a q h t = own_by (nat_eq id id) id second (tris_on path id) p (is_eq id) (t id a.0)

on_back : (m : ModelTree) (path : List Half) (p : PointOf) → IsPathOf m path → pos 0 <ℤ p.over → ((j : ℕ) → j < length m.vars → AreBounds path p j)
    → ((k : ℕ) → k < length m.booleans → Completes (p.truths k) (tris_on path k)) → IsOnPath path p
on_back m [] p a q h t = tt
on_back m (s ∷ path) p a q h t = (
  in_half m path s.split s.second p a.0 q h t,
  on_back m path p a.1 q (λ j l. bounds_earlier s.split s.second path p j q (h j l)) (λ k l. earlier m path s.split s.second p k a.0 (t k l)),
)

pub path_back : (m : ModelTree) (path : List Half) (p : PointOf) → IsPathOf m path → pos 0 <ℤ p.over → All (Holds p) (rows_of_path m.vars 0 path)
    → ((k : ℕ) → k < length m.booleans → Completes (p.truths k) (tris_on path k)) → IsOnPath path p
path_back m path p a q h t = on_back m path p a q (λ j l. let same : 0 + j ≡ j = omega arith in subst (AreBounds path p) same (bounds_back m.vars 0 path p h j l)) t

-- the readings of a model's Booleans
at_by : (b : Bool) (truth : Bool) (t : Tri) → (b ≡ true → Completes truth t) → (b ≡ false → truth ≡ false) → Completes truth (if b then t else No)
at_by true truth t f g = f refl
at_by false truth t f g = g refl

pub at_completes : (m : ModelTree) (path : List Half) (p : PointOf) (k : ℕ) → ((i : ℕ) → length m.booleans ≤ i → p.truths i ≡ false) → IsOnPath path p → Completes (p.truths k) (tris_at m path k)
at_completes m path p k s h =
    at_by (nat_lt k (length m.booleans)) (p.truths k) (tris_on path k) (λ e. on_completes path p k h) (λ e. s k (grind (arith, nat_tests)))

at_below_by : (b : Bool) (t : Tri) → b ≡ true → (if b then t else No) ≡ t
at_below_by true t e = refl
at_below_by false t e = let x : false ≡ true = e in cc

pub at_below : (m : ModelTree) (path : List Half) (k : ℕ) → k < length m.booleans → tris_at m path k ≡ tris_on path k
at_below m path k l = at_below_by (nat_lt k (length m.booleans)) (tris_on path k) (grind (arith, nat_tests))

at_past_by : (b : Bool) (t : Tri) → b ≡ false → (if b then t else No) ≡ No
at_past_by true t e = let x : true ≡ false = e in cc
at_past_by false t e = refl

pub at_past : (m : ModelTree) (path : List Half) (k : ℕ) → length m.booleans ≤ k → tris_at m path k ≡ No
at_past m path k l = at_past_by (nat_lt k (length m.booleans)) (tris_on path k) (grind (arith, nat_tests))
