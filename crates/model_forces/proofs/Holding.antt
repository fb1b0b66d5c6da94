-- When a row of a force holds, and what it says of the row or bound that it comes from.
use Rattle.std.proofs.Common.{◌≡◌, ◌<◌, ℕ, zero, suc, ◌+◌, ℤ, pos, neg_ℤ, ◌+ℤ◌, ◌*ℤ◌, ◌≤ℤ◌, Bool, true, false, ◌&&◌, List, [], ◌∷◌, ◌++◌, length, All, Option, None, Some, int_le, if◌then◌else◌, refl, ◌∙◌, ap, subst, arith}
use Rattle.std.proofs.lemmas.Int.{ints}
use Rattle.std.proofs.lemmas.Bool.Decides.{nat_tests}
use Rattle.std.proofs.lemmas.List.Elements.{All-nil, All-cons, All-head, All-tail, All-append}
use Rattle.fractions.specs.Fraction.{Fraction, IsLowest}
use Rattle.int_linear.specs.Terms.{dot}
use Rattle.int_linear.proofs.Ring.{neg_mul, mul_nonneg, zero_mul}
use Rattle.int_linear.proofs.Signs.{nonneg_cancel}
use Rattle.lp_rows.specs.declared.columns.Sign.TheVariants.{Free, Nonneg}
use Rattle.lp_rows.specs.declared.kinds.Rel.{Rel}
use Rattle.lp_rows.specs.declared.kinds.Rel.TheVariants as rel
use Rattle.lp_rows.specs.Holding.{stands, holds_at}
use Rattle.lp_rows.specs.Rows.{RowValue}
use Rattle.lp_frame.specs.declared.force.AtMost.{AtMost}
use Rattle.lp_frame.specs.Force.{HoldsAt}
use Rattle.lp_frame.specs.Split.{sign_at}
use Rattle.lp_rows.specs.Kinds.{is_of_kind}
use Rattle.point_tests.specs.Satisfied.{PointOf, is_above, is_below, vars_take, rows_hold}
use Rattle.model_tree.specs.Bounds.{IsEndLowest, AreEndsLowest}
use Rattle.model_tree.specs.Variables.{VarValue}
use Rattle.model_tree.proofs.Bools.{first_holds, second_holds, and_true}
use Rattle.model_forces.specs.Forces.{is_nothing, sign_of, cols_of, negated_terms, single, low_rows, high_rows, rows_of_vars, at_most, at_most_rows}
use Rattle.model_forces.specs.Laws.{are_of_kind}

pub all_left : {X : Type 0} (P : X → Type 0) (xs ys : List X) → All P (xs ++ ys) → All P xs
all_left P [] ys h = All-nil P
all_left P (x ∷ xs) ys h = All-cons P x xs (All-head P x (xs ++ ys) h) (all_left P xs ys (All-tail P x (xs ++ ys) h))

pub all_right : {X : Type 0} (P : X → Type 0) (xs ys : List X) → All P (xs ++ ys) → All P ys
all_right P [] ys h = h
all_right P (x ∷ xs) ys h = all_right P xs ys (All-tail P x (xs ++ ys) h)

pub all_one : {X : Type 0} (P : X → Type 0) (x : X) → P x → All P (x ∷ [])
all_one P x h = All-cons P x [] h (All-nil P)

pub le_of : (a b : ℤ) → int_le a b ≡ true → a ≤ℤ b
le_of a b h = grind (arith, ints)

pub le_is : (a b : ℤ) → a ≤ℤ b → int_le a b ≡ true
le_is a b h = grind (arith, ints)

nothing_is : (z : ℤ) → is_nothing z ≡ true → z ≡ pos 0
nothing_is z h = grind (arith, ints, nat_tests)

-- a row of one variable, with its sign or with the other
single_into : (over x a b : ℤ) → (a *ℤ x) ≤ℤ (b *ℤ over) → (a *ℤ x +ℤ pos 0) ≤ℤ (b *ℤ over)
single_into over x a b h = omega (arith, ints, h)

single_back : (over x a b : ℤ) → (a *ℤ x +ℤ pos 0) ≤ℤ (b *ℤ over) → (a *ℤ x) ≤ℤ (b *ℤ over)
single_back over x a b h = omega (arith, ints, h)

pub turned_into : (over x a b : ℤ) → (b *ℤ over) ≤ℤ (a *ℤ x) → (neg_ℤ a *ℤ x +ℤ pos 0) ≤ℤ (neg_ℤ b *ℤ over)
turned_into over x a b h = let e = neg_mul a x in let f = neg_mul b over in omega (arith, ints, h, e, f)

pub turned_back : (over x a b : ℤ) → (neg_ℤ a *ℤ x +ℤ pos 0) ≤ℤ (neg_ℤ b *ℤ over) → (b *ℤ over) ≤ℤ (a *ℤ x)
turned_back over x a b h = let e = neg_mul a x in let f = neg_mul b over in omega (arith, ints, h, e, f)

-- a low
if_into : {X : Type 0} (P : X → Type 0) (b : Bool) (rows : List X) → All P rows → All P (if b then [] else rows)
if_into P true rows h = All-nil P
if_into P false rows h = h

pub low_into : (o : Option Fraction) (j : ℕ) (nums : ℕ → ℤ) (over : ℤ) → is_above o (nums j) over ≡ true → All (HoldsAt over nums) (low_rows o j)
low_into None j nums over h = All-nil (HoldsAt over nums)
low_into (Some f) j nums over h =
    let row = single j (neg_ℤ f.den) (neg_ℤ f.num) in
    if_into (HoldsAt over nums) (is_nothing f.num) (row ∷ [])
    (all_one (HoldsAt over nums) row (turned_into over (nums j) f.den f.num (le_of (f.num *ℤ over) (f.den *ℤ nums j) h)))

low_by : (f : Fraction) (j : ℕ) (nums : ℕ → ℤ) (over : ℤ) (b : Bool) → is_nothing f.num ≡ b → IsLowest f → All (HoldsAt over nums) (if b then [] else single j (neg_ℤ f.den) (neg_ℤ f.num) ∷ [])
    → ((if b then Nonneg else Free) ≡ Nonneg → pos 0 ≤ℤ nums j) → int_le (f.num *ℤ over) (f.den *ℤ nums j) ≡ true
low_by f j nums over true e l h s =
    let p = mul_nonneg f.den (nums j) (let q = l.positive in omega (arith, ints, q)) (s refl) in
    let z : f.num *ℤ over ≡ pos 0 = ap (λ x. x *ℤ over) (nothing_is f.num e) ∙ zero_mul over in
    le_is (f.num *ℤ over) (f.den *ℤ nums j) (omega (arith, ints, p, z))
low_by f j nums over false e l h s =
    le_is (f.num *ℤ over) (f.den *ℤ nums j) (turned_back over (nums j) f.den f.num (All-head (HoldsAt over nums) (single j (neg_ℤ f.den) (neg_ℤ f.num)) [] h))

pub low_back : (o : Option Fraction) (j : ℕ) (nums : ℕ → ℤ) (over : ℤ) → IsEndLowest o → All (HoldsAt over nums) (low_rows o j) → (sign_of o ≡ Nonneg → pos 0 ≤ℤ nums j) → is_above o (nums j) over ≡ true
low_back None j nums over l h s = refl
low_back (Some f) j nums over l h s = low_by f j nums over (is_nothing f.num) refl (l f refl) h s

sign_by : (f : Fraction) (x over : ℤ) (b : Bool) → is_nothing f.num ≡ b → IsLowest f → int_le (f.num *ℤ over) (f.den *ℤ x) ≡ true → (if b then Nonneg else Free) ≡ Nonneg → pos 0 ≤ℤ x
sign_by f x over true e l h s =
    let z : f.num *ℤ over ≡ pos 0 = ap (λ y. y *ℤ over) (nothing_is f.num e) ∙ zero_mul over in
    let g = le_of (f.num *ℤ over) (f.den *ℤ x) h in
    nonneg_cancel f.den x l.positive (omega (arith, ints, g, z))
sign_by f x over false e l h s = cc

pub sign_into : (o : Option Fraction) (x over : ℤ) → IsEndLowest o → is_above o x over ≡ true → sign_of o ≡ Nonneg → pos 0 ≤ℤ x
sign_into None x over l h s = cc
sign_into (Some f) x over l h s = sign_by f x over (is_nothing f.num) refl (l f refl) h s

-- a high
pub high_into : (o : Option Fraction) (j : ℕ) (nums : ℕ → ℤ) (over : ℤ) → is_below o (nums j) over ≡ true → All (HoldsAt over nums) (high_rows o j)
high_into None j nums over h = All-nil (HoldsAt over nums)
high_into (Some f) j nums over h =
    all_one (HoldsAt over nums) (single j f.den f.num) (single_into over (nums j) f.den f.num (le_of (f.den *ℤ nums j) (f.num *ℤ over) h))

pub high_back : (o : Option Fraction) (j : ℕ) (nums : ℕ → ℤ) (over : ℤ) → All (HoldsAt over nums) (high_rows o j) → is_below o (nums j) over ≡ true
high_back None j nums over h = refl
high_back (Some f) j nums over h =
    le_is (f.den *ℤ nums j) (f.num *ℤ over) (single_back over (nums j) f.den f.num (All-head (HoldsAt over nums) (single j f.den f.num) [] h))

-- the variables

pub vars_into : (vs : List VarValue) (j : ℕ) (nums : ℕ → ℤ) (over : ℤ) → vars_take vs j nums over ≡ true → All (HoldsAt over nums) (rows_of_vars vs j)
vars_into [] j nums over h = All-nil (HoldsAt over nums)
vars_into (v ∷ vs) j nums over h =
    let a = is_above v.2.low (nums j) over in
    let b = is_below v.2.high (nums j) over in
    let c = is_of_kind v.1 (nums j) over in
    let here = first_holds (a && b && c) (vars_take vs (j + 1) nums over) h in
    let ends = first_holds (a && b) c here in
    All-append (HoldsAt over nums) (low_rows v.2.low j) (high_rows v.2.high j ++ rows_of_vars vs (j + 1)) (low_into v.2.low j nums over (first_holds a b ends))
    (All-append (HoldsAt over nums) (high_rows v.2.high j) (rows_of_vars vs (j + 1)) (high_into v.2.high j nums over (second_holds a b ends))
    (vars_into vs (j + 1) nums over (second_holds (a && b && c) (vars_take vs (j + 1) nums over) h)))

pub vars_signs : (vs : List VarValue) (j : ℕ) (nums : ℕ → ℤ) (over : ℤ) → All (λ v. AreEndsLowest v.2) vs → vars_take vs j nums over ≡ true → (i : ℕ) → i < length (cols_of vs) → sign_at (cols_of vs) i ≡ Nonneg → pos 0 ≤ℤ nums (j + i)
vars_signs [] j nums over l h i p e = absurd (omega arith)
vars_signs (v ∷ vs) j nums over l h zero p e =
    let a = is_above v.2.low (nums j) over in
    let b = is_below v.2.high (nums j) over in
    let c = is_of_kind v.1 (nums j) over in
    let here = first_holds (a && b && c) (vars_take vs (j + 1) nums over) h in
    let low = first_holds a b (first_holds (a && b) c here) in
    let same : j ≡ j + 0 = omega arith in
    subst (λ k. pos 0 ≤ℤ nums k) same (sign_into v.2.low (nums j) over (All-head (λ v. AreEndsLowest v.2) v vs l).0 low e)
vars_signs (v ∷ vs) j nums over l h (suc i) p e =
    let a = is_above v.2.low (nums j) over in
    let b = is_below v.2.high (nums j) over in
    let c = is_of_kind v.1 (nums j) over in
    let same : j + 1 + i ≡ j + suc i = omega arith in
    subst (λ k. pos 0 ≤ℤ nums k) same
    (vars_signs vs (j + 1) nums over (All-tail (λ v. AreEndsLowest v.2) v vs l) (second_holds (a && b && c) (vars_take vs (j + 1) nums over) h) i (omega arith) e)

pub vars_back : (vs : List VarValue) (j : ℕ) (nums : ℕ → ℤ) (over : ℤ) → All (λ v. AreEndsLowest v.2) vs → All (HoldsAt over nums) (rows_of_vars vs j)
    → ((i : ℕ) → i < length (cols_of vs) → sign_at (cols_of vs) i ≡ Nonneg → pos 0 ≤ℤ nums (j + i)) → are_of_kind vs j nums over ≡ true → vars_take vs j nums over ≡ true
vars_back [] j nums over l h s k = refl
vars_back (v ∷ vs) j nums over l h s k =
    let a = is_above v.2.low (nums j) over in
    let b = is_below v.2.high (nums j) over in
    let c = is_of_kind v.1 (nums j) over in
    let low = low_rows v.2.low j in
    let high = high_rows v.2.high j in
    let more = rows_of_vars vs (j + 1) in
    let rest = all_right (HoldsAt over nums) low (high ++ more) h in
    let same : j + 0 ≡ j = omega arith in
    and_true (a && b && c) (vars_take vs (j + 1) nums over)
    (and_true (a && b) c
    (and_true a b
    (low_back v.2.low j nums over (All-head (λ v. AreEndsLowest v.2) v vs l).0 (all_left (HoldsAt over nums) low (high ++ more) h) (λ e. subst (λ k. pos 0 ≤ℤ nums k) same (s 0 (omega arith) e)))
    (high_back v.2.high j nums over (all_left (HoldsAt over nums) high more rest)))
    (first_holds c (are_of_kind vs (j + 1) nums over) k))
    (vars_back vs (j + 1) nums over (All-tail (λ v. AreEndsLowest v.2) v vs l) (all_right (HoldsAt over nums) high more rest)
    (λ i p e. let q : j + suc i ≡ j + 1 + i = omega arith in subst (λ k. pos 0 ≤ℤ nums k) q (s (suc i) (omega arith) e))
    (second_holds c (are_of_kind vs (j + 1) nums over) k))

-- a model's rows
pub dot_negated : (ts : List (ℕ × ℤ)) (v : ℕ → ℤ) → dot (negated_terms ts) v ≡ neg_ℤ (dot ts v)
dot_negated [] v = refl
dot_negated (t ∷ ts) v = let e = dot_negated ts v in let f = neg_mul t.1 (v t.0) in omega (arith, ints, e, f)

negated_into : (ts : List (ℕ × ℤ)) (v : ℕ → ℤ) (b over : ℤ) → (b *ℤ over) ≤ℤ dot ts v → dot (negated_terms ts) v ≤ℤ (neg_ℤ b *ℤ over)
negated_into ts v b over h = let e = dot_negated ts v in let f = neg_mul b over in omega (arith, ints, e, f, h)

negated_back : (ts : List (ℕ × ℤ)) (v : ℕ → ℤ) (b over : ℤ) → dot (negated_terms ts) v ≤ℤ (neg_ℤ b *ℤ over) → (b *ℤ over) ≤ℤ dot ts v
negated_back ts v b over h = let e = dot_negated ts v in let f = neg_mul b over in omega (arith, ints, e, f, h)

row_into : (r : Rel) (ts : List (ℕ × ℤ)) (b over : ℤ) (v : ℕ → ℤ) → stands r (dot ts v) (b *ℤ over) ≡ true → All (HoldsAt over v) (at_most r ts b)
row_into rel.AtMost ts b over v h = all_one (HoldsAt over v) (record { terms = ts; bound = b }) (le_of (dot ts v) (b *ℤ over) h)
row_into rel.AtLeast ts b over v h =
    all_one (HoldsAt over v) (record { terms = negated_terms ts; bound = neg_ℤ b }) (negated_into ts v b over (le_of (b *ℤ over) (dot ts v) h))
row_into rel.Equal ts b over v h =
    let below = int_le (dot ts v) (b *ℤ over) in
    let above = int_le (b *ℤ over) (dot ts v) in
    All-cons (HoldsAt over v) (record { terms = ts; bound = b }) (record { terms = negated_terms ts; bound = neg_ℤ b } ∷ []) (le_of (dot ts v) (b *ℤ over) (first_holds below above h))
    (all_one (HoldsAt over v) (record { terms = negated_terms ts; bound = neg_ℤ b }) (negated_into ts v b over (le_of (b *ℤ over) (dot ts v) (second_holds below above h))))

row_back : (r : Rel) (ts : List (ℕ × ℤ)) (b over : ℤ) (v : ℕ → ℤ) → All (HoldsAt over v) (at_most r ts b) → stands r (dot ts v) (b *ℤ over) ≡ true
row_back rel.AtMost ts b over v h = le_is (dot ts v) (b *ℤ over) (All-head (HoldsAt over v) (record { terms = ts; bound = b }) [] h)
row_back rel.AtLeast ts b over v h =
    le_is (b *ℤ over) (dot ts v) (negated_back ts v b over (All-head (HoldsAt over v) (record { terms = negated_terms ts; bound = neg_ℤ b }) [] h))
row_back rel.Equal ts b over v h =
    let other : AtMost = record { terms = negated_terms ts; bound = neg_ℤ b } in
    and_true (int_le (dot ts v) (b *ℤ over)) (int_le (b *ℤ over) (dot ts v))
    (le_is (dot ts v) (b *ℤ over) (All-head (HoldsAt over v) (record { terms = ts; bound = b }) (other ∷ []) h))
    (le_is (b *ℤ over) (dot ts v) (negated_back ts v b over (All-head (HoldsAt over v) other [] (All-tail (HoldsAt over v) (record { terms = ts; bound = b }) (other ∷ []) h))))

pub rows_into : (rs : List (RowValue × ℕ)) (p : PointOf) → rows_hold rs p ≡ true → All (HoldsAt p.over p.nums) (at_most_rows rs)
rows_into [] p h = All-nil (HoldsAt p.over p.nums)
rows_into (r ∷ rs) p h =
    All-append (HoldsAt p.over p.nums) (at_most r.0.rel r.0.terms r.0.right) (at_most_rows rs)
    (row_into r.0.rel r.0.terms r.0.right p.over p.nums (first_holds (holds_at r.0 p.over p.nums) (rows_hold rs p) h))
    (rows_into rs p (second_holds (holds_at r.0 p.over p.nums) (rows_hold rs p) h))

pub rows_back : (rs : List (RowValue × ℕ)) (p : PointOf) → All (HoldsAt p.over p.nums) (at_most_rows rs) → rows_hold rs p ≡ true
rows_back [] p h = refl
rows_back (r ∷ rs) p h =
    let here = at_most r.0.rel r.0.terms r.0.right in
    and_true (holds_at r.0 p.over p.nums) (rows_hold rs p)
    (row_back r.0.rel r.0.terms r.0.right p.over p.nums (all_left (HoldsAt p.over p.nums) here (at_most_rows rs) h))
    (rows_back rs p (all_right (HoldsAt p.over p.nums) here (at_most_rows rs) h))
