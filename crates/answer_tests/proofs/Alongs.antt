-- From a point of the model a ray whose tests pass leads to points.
use Rattle.std.proofs.Common.{◌≡◌, ℕ, zero, suc, ◌+◌, ◌*◌, ◌/◌, ◌%◌, ℤ, pos, negsuc, neg_ℤ, ◌+ℤ◌, ◌*ℤ◌, ◌≤ℤ◌, ◌<ℤ◌, Bool, true, false, ◌&&◌, List, [], ◌∷◌, ◌++◌, map, All, Option, None, Some, int_le, Result, Ok, Err, refl, ap, sym, ◌∙◌, subst, arith, if◌then◌else◌}
use Rattle.std.proofs.lemmas.Int.{ints}
use Rattle.std.proofs.lemmas.List.Elements.{All-head, All-tail}
use Rattle.fractions.specs.Fraction.{Fraction}
use Rattle.int_linear.specs.Terms.{dot}
use Rattle.int_linear.proofs.Dots.{dot_add, dot_scale}
use Rattle.int_linear.proofs.Ring.{products, add_mul, mul_add, mul_nonneg}
use Rattle.int_linear.proofs.Signs.{mul_nonpos}
use Rattle.lp_rows.specs.declared.kinds.Kind.{Kind}
use Rattle.lp_rows.specs.declared.kinds.Kind.TheVariants.{Real, Int}
use Rattle.lp_rows.specs.declared.kinds.Rel.{Rel}
use Rattle.lp_rows.specs.declared.kinds.Rel.TheVariants.{AtMost, AtLeast, Equal}
use Rattle.lp_rows.specs.Holding.{stands, holds_at, sum_fits}
use Rattle.lp_rows.specs.Rows.{RowValue}
use Rattle.lp_rows.proofs.Wholes.{whole_by, whole_back}
use Rattle.point_tests.specs.declared.verdicts.Verdict.{Verdict}
use Rattle.point_tests.specs.declared.verdicts.Verdict.TheVariants.{Holds, FailsAt}
use Rattle.point_tests.specs.declared.verdicts.SumWide.{SumWide}
use Rattle.point_tests.specs.Satisfied.{PointOf, is_above, is_below, is_whole, is_of_kind, takes, vars_take, rows_hold, props_hold, true_count, mode_allows, is_off, is_satisfied, are_disjunctions_satisfied, are_disjuncts_satisfied}
use Rattle.model_tree.specs.Bounds.{AreEndsLowest, IsEndLowest}
use Rattle.point_tests.specs.Tests.{Test, test_of, sized_test, verdict_of}
use Rattle.model_tree.specs.Tree.{BlockTree, block, Disjunctions, no_disjunctions, disjunction, Disjuncts, no_disjuncts, disjunct}
use Rattle.model_tree.specs.Variables.{VarValue}
use Rattle.int_linear.proofs.Bools.{and_first, and_second, and_from}
use Rattle.point_tests.proofs.TestsLemmas.{first_of, verdict-append}
use Rattle.model_claims.specs.Claims.{along}
use Rattle.answer_tests.specs.Rays.{keeps_low, keeps_high, ray_tests_of_var, ray_tests_of_vars, ray_test_of_row, ray_tests_of_block, ray_tests_of_disjunctions, ray_tests_of_disjuncts}

-- what passes
pub both_pass : (a b : Result Verdict SumWide) → first_of a b ≡ Ok Holds → (a ≡ Ok Holds) × (b ≡ Ok Holds)
both_pass (Ok Holds) b h = (refl, h)
both_pass (Ok (FailsAt mark)) b h = absurd cc
both_pass (Err e) b h = absurd cc

pub parts_pass : (xs ys : List Test) → verdict_of (xs ++ ys) ≡ Ok Holds → (verdict_of xs ≡ Ok Holds) × (verdict_of ys ≡ Ok Holds)
parts_pass xs ys h = both_pass (verdict_of xs) (verdict_of ys) (sym (verdict-append xs ys) ∙ h)

pub test_passes : (holds : Bool) (mark : ℕ) (ts : List Test) → verdict_of (test_of holds mark ∷ ts) ≡ Ok Holds → (holds ≡ true) × (verdict_of ts ≡ Ok Holds)
test_passes true mark ts h = (refl, h)
test_passes false mark ts h = absurd cc

pub sized_passes : (fit holds : Bool) (mark : ℕ) (ts : List Test) → verdict_of (sized_test fit holds mark ∷ ts) ≡ Ok Holds → (holds ≡ true) × (verdict_of ts ≡ Ok Holds)
sized_passes true holds mark ts h = test_passes holds mark ts h
sized_passes false holds mark ts h = absurd cc

pub le_of : (a b : ℤ) → int_le a b ≡ true → a ≤ℤ b
le_of a b h = grind (arith, ints)

pub le_is : (a b : ℤ) → a ≤ℤ b → int_le a b ≡ true
le_is a b h = grind (arith, ints)

whole_along : (x over r : ℤ) (k : ℕ) → pos 0 <ℤ over → is_whole x over ≡ true → is_whole (x +ℤ pos k *ℤ over *ℤ r) over ≡ true
whole_along x over r k l h =
    let w = whole_by x over l h in
    let t : pos k *ℤ over *ℤ r ≡ (pos k *ℤ r) *ℤ over = simp products refl in
    let e : x +ℤ pos k *ℤ over *ℤ r ≡ (w.0 +ℤ pos k *ℤ r) *ℤ over = ap (λ z. z +ℤ pos k *ℤ over *ℤ r) w.1 ∙ ap (λ z. w.0 *ℤ over +ℤ z) t ∙ sym (add_mul w.0 (pos k *ℤ r) over) in
    subst (λ z. is_whole z over ≡ true) (sym e) (whole_back (w.0 +ℤ pos k *ℤ r) over l)

kind_along : (kind : Kind) (x over r : ℤ) (k : ℕ) → pos 0 <ℤ over → is_of_kind kind x over ≡ true → is_of_kind kind (x +ℤ pos k *ℤ over *ℤ r) over ≡ true
kind_along Real x over r k l h = refl
kind_along Int x over r k l h = whole_along x over r k l h

factor : (over : ℤ) (k : ℕ) → pos 0 <ℤ over → pos 0 ≤ℤ (pos k *ℤ over)
factor over k l = mul_nonneg (pos k) over (omega (arith, ints)) (omega (arith, ints))

low_along : (end : Option Fraction) (x over r : ℤ) (k : ℕ) → pos 0 <ℤ over → IsEndLowest end → is_above end x over ≡ true → keeps_low end r ≡ true → is_above end (x +ℤ pos k *ℤ over *ℤ r) over ≡ true
low_along None x over r k l e h t = refl
low_along (Some f) x over r k l e h t =
    let a = le_of (f.num *ℤ over) (f.den *ℤ x) h in
    let b = mul_nonneg (pos k *ℤ over) r (factor over k l) (le_of (pos 0) r t) in
    let p = (e f refl).positive in
    let c = mul_nonneg f.den (pos k *ℤ over *ℤ r) (omega (arith, ints)) b in
    let d = mul_add f.den x (pos k *ℤ over *ℤ r) in
    le_is (f.num *ℤ over) (f.den *ℤ (x +ℤ pos k *ℤ over *ℤ r)) (omega (arith, ints))

high_along : (end : Option Fraction) (x over r : ℤ) (k : ℕ) → pos 0 <ℤ over → IsEndLowest end → is_below end x over ≡ true → keeps_high end r ≡ true → is_below end (x +ℤ pos k *ℤ over *ℤ r) over ≡ true
high_along None x over r k l e h t = refl
high_along (Some f) x over r k l e h t =
    let a = le_of (f.den *ℤ x) (f.num *ℤ over) h in
    let b = mul_nonpos (pos k *ℤ over) r (factor over k l) (le_of r (pos 0) t) in
    let p = (e f refl).positive in
    let c = mul_nonpos f.den (pos k *ℤ over *ℤ r) (omega (arith, ints)) b in
    let d = mul_add f.den x (pos k *ℤ over *ℤ r) in
    le_is (f.den *ℤ (x +ℤ pos k *ℤ over *ℤ r)) (f.num *ℤ over) (omega (arith, ints))

pub vars_along : (vs : List VarValue) (j : ℕ) (nums ray : ℕ → ℤ) (over : ℤ) (k : ℕ) → pos 0 <ℤ over → All (λ v. AreEndsLowest v.2) vs
    → vars_take vs j nums over ≡ true → verdict_of (ray_tests_of_vars vs j ray) ≡ Ok Holds → vars_take vs j (λ i. nums i +ℤ pos k *ℤ over *ℤ ray i) over ≡ true
vars_along [] j nums ray over k l e h t = refl
vars_along (v ∷ vs) j nums ray over k l e h t =
    let ends = All-head (λ v. AreEndsLowest v.2) v vs e in
    let low = is_above v.2.low (nums j) over in
    let high = is_below v.2.high (nums j) over in
    let kind = is_of_kind v.1 (nums j) over in
    let moved : ℤ = nums j +ℤ pos k *ℤ over *ℤ ray j in
    let here = and_first (takes v (nums j) over) (vars_take vs (j + 1) nums over) h in
    let rest = and_second (takes v (nums j) over) (vars_take vs (j + 1) nums over) h in
    let both = and_first (low && high) kind here in
    let p = parts_pass (ray_tests_of_var v (ray j)) (ray_tests_of_vars vs (j + 1) ray) t in
    let a = test_passes (keeps_low v.2.low (ray j)) v.3 (test_of (keeps_high v.2.high (ray j)) v.3 ∷ []) p.0 in
    let b = test_passes (keeps_high v.2.high (ray j)) v.3 [] a.1 in
    and_from (takes v moved over) (vars_take vs (j + 1) (λ i. nums i +ℤ pos k *ℤ over *ℤ ray i) over)
    (and_from (is_above v.2.low moved over && is_below v.2.high moved over) (is_of_kind v.1 moved over)
    (and_from (is_above v.2.low moved over) (is_below v.2.high moved over)
    (low_along v.2.low (nums j) over (ray j) k l ends.0 (and_first low high both) a.0)
    (high_along v.2.high (nums j) over (ray j) k l ends.1 (and_second low high both) b.0))
    (kind_along v.1 (nums j) over (ray j) k l (and_second (low && high) kind here)))
    (vars_along vs (j + 1) nums ray over k l (All-tail (λ v. AreEndsLowest v.2) v vs e) rest p.1)

pub sum_along : (ts : List (ℕ × ℤ)) (nums ray : ℕ → ℤ) (over : ℤ) (k : ℕ) → dot ts (λ j. nums j +ℤ pos k *ℤ over *ℤ ray j) ≡ dot ts nums +ℤ pos k *ℤ over *ℤ dot ts ray
sum_along ts nums ray over k = dot_add ts nums (λ j. pos k *ℤ over *ℤ ray j) ∙ ap (λ z. dot ts nums +ℤ z) (dot_scale ts (pos k *ℤ over) ray)

most_along : (x r b c : ℤ) → pos 0 ≤ℤ c → int_le x b ≡ true → int_le r (pos 0) ≡ true → int_le (x +ℤ c *ℤ r) b ≡ true
most_along x r b c l h t =
    let a = le_of x b h in
    let d = mul_nonpos c r l (le_of r (pos 0) t) in
    le_is (x +ℤ c *ℤ r) b (omega (arith, ints))

least_along : (x r b c : ℤ) → pos 0 ≤ℤ c → int_le b x ≡ true → int_le (pos 0) r ≡ true → int_le b (x +ℤ c *ℤ r) ≡ true
least_along x r b c l h t =
    let a = le_of b x h in
    let d = mul_nonneg c r l (le_of (pos 0) r t) in
    le_is b (x +ℤ c *ℤ r) (omega (arith, ints))

stands_along : (rel : Rel) (x r b c : ℤ) → pos 0 ≤ℤ c → stands rel x b ≡ true → stands rel r (pos 0) ≡ true → stands rel (x +ℤ c *ℤ r) b ≡ true
stands_along AtMost x r b c l h t = most_along x r b c l h t
stands_along AtLeast x r b c l h t = least_along x r b c l h t
stands_along Equal x r b c l h t =
    and_from (int_le (x +ℤ c *ℤ r) b) (int_le b (x +ℤ c *ℤ r))
    (most_along x r b c l (and_first (int_le x b) (int_le b x) h) (and_first (int_le r (pos 0)) (int_le (pos 0) r) t))
    (least_along x r b c l (and_second (int_le x b) (int_le b x) h) (and_second (int_le r (pos 0)) (int_le (pos 0) r) t))

row_along : (r : RowValue) (nums ray : ℕ → ℤ) (over : ℤ) (k : ℕ) → pos 0 <ℤ over → holds_at r over nums ≡ true → stands r.rel (dot r.terms ray) (pos 0) ≡ true
    → holds_at r over (λ j. nums j +ℤ pos k *ℤ over *ℤ ray j) ≡ true
row_along r nums ray over k l h t =
    subst (λ z. stands r.rel z (r.right *ℤ over) ≡ true) (sym (sum_along r.terms nums ray over k))
    (stands_along r.rel (dot r.terms nums) (dot r.terms ray) (r.right *ℤ over) (pos k *ℤ over) (factor over k l) h t)

rows_along : (rs : List (RowValue × ℕ)) (p : PointOf) (ray : ℕ → ℤ) (k : ℕ) → pos 0 <ℤ p.over → rows_hold rs p ≡ true → verdict_of (map (ray_test_of_row ray) rs) ≡ Ok Holds → rows_hold rs (along p ray k) ≡ true
rows_along [] p ray k l h t = refl
rows_along (r ∷ rs) p ray k l h t =
    let s = sized_passes (sum_fits (pos 0) r.0.terms ray) (stands r.0.rel (dot r.0.terms ray) (pos 0)) r.1 (map (ray_test_of_row ray) rs) t in
    and_from (holds_at r.0 p.over (along p ray k).nums) (rows_hold rs (along p ray k))
    (row_along r.0 p.nums ray p.over k l (and_first (holds_at r.0 p.over p.nums) (rows_hold rs p) h) s.0)
    (rows_along rs p ray k l (and_second (holds_at r.0 p.over p.nums) (rows_hold rs p) h) s.1)

-- of two, the one that the truth chooses
chosen : (on x y z : Bool) (ts : List Test) → (x ≡ true → verdict_of ts ≡ Ok Holds → y ≡ true) → (if on then x else z) ≡ true → verdict_of (if on then ts else []) ≡ Ok Holds → (if on then y else z) ≡ true
chosen true x y z ts f h v = f h v
chosen false x y z ts f h v = h

mutual
  pub block_along : (b : BlockTree) (p : PointOf) (ray : ℕ → ℤ) (k : ℕ) → pos 0 <ℤ p.over → is_satisfied b p ≡ true → verdict_of (ray_tests_of_block b p.truths ray) ≡ Ok Holds → is_satisfied b (along p ray k) ≡ true
  block_along (block items ds) p ray k l h t =
      let v = parts_pass (map (ray_test_of_row ray) items.rows) (ray_tests_of_disjunctions ds p.truths ray) t in
      let rest = and_second (rows_hold items.rows p) (props_hold items.props p.truths && are_disjunctions_satisfied ds p) h in
      and_from (rows_hold items.rows (along p ray k)) (props_hold items.props p.truths && are_disjunctions_satisfied ds (along p ray k))
      (rows_along items.rows p ray k l (and_first (rows_hold items.rows p) (props_hold items.props p.truths && are_disjunctions_satisfied ds p) h) v.0)
      (and_from (props_hold items.props p.truths) (are_disjunctions_satisfied ds (along p ray k))
      (and_first (props_hold items.props p.truths) (are_disjunctions_satisfied ds p) rest)
      (disjunctions_along ds p ray k l (and_second (props_hold items.props p.truths) (are_disjunctions_satisfied ds p) rest) v.1))

  disjunctions_along : (ds : Disjunctions) (p : PointOf) (ray : ℕ → ℤ) (k : ℕ) → pos 0 <ℤ p.over → are_disjunctions_satisfied ds p ≡ true → verdict_of (ray_tests_of_disjunctions ds p.truths ray) ≡ Ok Holds
      → are_disjunctions_satisfied ds (along p ray k) ≡ true
  disjunctions_along no_disjunctions p ray k l h t = refl
  disjunctions_along (disjunction head js ds) p ray k l h t =
      let v = parts_pass (ray_tests_of_disjuncts js p.truths ray) (ray_tests_of_disjunctions ds p.truths ray) t in
      let allowed = mode_allows head.mode (true_count js p.truths) in
      let here = and_first (allowed && are_disjuncts_satisfied js p) (are_disjunctions_satisfied ds p) h in
      and_from (allowed && are_disjuncts_satisfied js (along p ray k)) (are_disjunctions_satisfied ds (along p ray k))
      (and_from allowed (are_disjuncts_satisfied js (along p ray k)) (and_first allowed (are_disjuncts_satisfied js p) here)
      (disjuncts_along js p ray k l (and_second allowed (are_disjuncts_satisfied js p) here) v.0))
      (disjunctions_along ds p ray k l (and_second (allowed && are_disjuncts_satisfied js p) (are_disjunctions_satisfied ds p) h) v.1)

  disjuncts_along : (js : Disjuncts) (p : PointOf) (ray : ℕ → ℤ) (k : ℕ) → pos 0 <ℤ p.over → are_disjuncts_satisfied js p ≡ true → verdict_of (ray_tests_of_disjuncts js p.truths ray) ≡ Ok Holds
      → are_disjuncts_satisfied js (along p ray k) ≡ true
  disjuncts_along no_disjuncts p ray k l h t = refl
  disjuncts_along (disjunct head b js) p ray k l h t =
      let on = p.truths head.indicator in
      let v = parts_pass (if on then ray_tests_of_block b p.truths ray else []) (ray_tests_of_disjuncts js p.truths ray) t in
      and_from (if on then is_satisfied b (along p ray k) else is_off b p.truths) (are_disjuncts_satisfied js (along p ray k))
      (chosen on (is_satisfied b p) (is_satisfied b (along p ray k)) (is_off b p.truths) (ray_tests_of_block b p.truths ray) (λ x y. block_along b p ray k l x y)
      (and_first (if on then is_satisfied b p else is_off b p.truths) (are_disjuncts_satisfied js p) h) v.0)
      (disjuncts_along js p ray k l (and_second (if on then is_satisfied b p else is_off b p.truths) (are_disjuncts_satisfied js p) h) v.1)
