-- Along a ray that leads to points without end no test of the ray fails.
use Rattle.std.proofs.Common.{◌≡◌, ℕ, suc, ◌+◌, ℤ, pos, negsuc, neg_ℤ, ◌+ℤ◌, ◌-ℤ◌, ◌*ℤ◌, ◌≤ℤ◌, ◌<ℤ◌, Bool, true, false, ◌&&◌, List, [], ◌∷◌, ◌++◌, map, All, Option, None, Some, int_le, int_lt, Result, Ok, Err, refl, ap, sym, ◌∙◌, subst, arith, if◌then◌else◌}
use Rattle.std.specs.Prelude.{unsigned_abs}
use Rattle.std.proofs.lemmas.Int.{ints}
use Rattle.std.proofs.lemmas.List.Elements.{All-head, All-tail}
use Rattle.fractions.specs.Fraction.{Fraction}
use Rattle.int_linear.specs.Terms.{dot}
use Rattle.int_linear.proofs.Ring.{products, mul_assoc, mul_pos, mul_one, le_mul, neg_mul, mul_neg, pos_cancel}
use Rattle.int_linear.proofs.Signs.{mul_negative, negative_cancel}
use Rattle.lp_rows.specs.declared.kinds.Rel.{Rel}
use Rattle.lp_rows.specs.declared.kinds.Rel.TheVariants.{AtMost, AtLeast, Equal}
use Rattle.lp_rows.specs.declared.kinds.Sense.{Sense}
use Rattle.lp_rows.specs.declared.kinds.Sense.TheVariants.{Min, Max}
use Rattle.lp_rows.specs.Holding.{stands, holds_at, sum_fits}
use Rattle.lp_rows.specs.Rows.{RowValue}
use Rattle.point_tests.specs.declared.verdicts.Verdict.{Verdict}
use Rattle.point_tests.specs.declared.verdicts.Verdict.TheVariants.{Holds, FailsAt}
use Rattle.point_tests.specs.declared.verdicts.SumWide.{SumWide}
use Rattle.point_tests.specs.Satisfied.{PointOf, is_above, is_below, is_of_kind, takes, vars_take, rows_hold, props_hold, true_count, mode_allows, is_off, is_satisfied, are_disjunctions_satisfied, are_disjuncts_satisfied}
use Rattle.model_tree.specs.Bounds.{AreEndsLowest, IsEndLowest}
use Rattle.point_tests.specs.Tests.{Test, test_of, sized_test, verdict_of}
use Rattle.model_tree.specs.Tree.{BlockTree, block, Disjunctions, no_disjunctions, disjunction, Disjuncts, no_disjuncts, disjunct}
use Rattle.model_tree.specs.Variables.{VarValue}
use Rattle.int_linear.proofs.Bools.{and_first, and_second, and_from}
use Rattle.point_tests.proofs.TestsLemmas.{first_of, verdict-append}
use Rattle.model_claims.specs.Claims.{IsBetter, along}
use Rattle.answer_tests.specs.Rays.{keeps_low, keeps_high, ray_tests_of_var, ray_tests_of_vars, ray_test_of_row, ray_tests_of_block, ray_tests_of_disjunctions, ray_tests_of_disjuncts, minimised, ray_test_of_goal}
use Rattle.answer_tests.proofs.Alongs.{le_of, sum_along}
use Rattle.lowest_terms.specs.Laws.{RayDoesNotFail}

-- none of the tests is the first that fails
record NoneFails (ts : List Test) : Type 0 where
  none : (mark : ℕ) → verdict_of ts ≡ Ok (FailsAt mark) → ⊥

none_in : (a b : Result Verdict SumWide) → ((mark : ℕ) → a ≡ Ok (FailsAt mark) → ⊥) → ((mark : ℕ) → b ≡ Ok (FailsAt mark) → ⊥) → (mark : ℕ) → first_of a b ≡ Ok (FailsAt mark) → ⊥
none_in (Ok Holds) b f g mark h = g mark h
none_in (Ok (FailsAt n)) b f g mark h = f n refl
none_in (Err e) b f g mark h = cc

both : (xs ys : List Test) → NoneFails xs → NoneFails ys → NoneFails (xs ++ ys)
both xs ys f g = record { none = λ mark h. none_in (verdict_of xs) (verdict_of ys) f.none g.none mark (sym (verdict-append xs ys) ∙ h) }

nothing : NoneFails []
nothing = record { none = λ mark h. cc }

passing : (b : Bool) (mark : ℕ) (ts : List Test) → b ≡ true → NoneFails ts → NoneFails (test_of b mark ∷ ts)
passing true mark ts e f = record { none = f.none }
passing false mark ts e f = absurd (let x : false ≡ true = e in cc)

sized : (fit b : Bool) (mark : ℕ) (ts : List Test) → b ≡ true → NoneFails ts → NoneFails (sized_test fit b mark ∷ ts)
sized true b mark ts e f = passing b mark ts e f
sized false b mark ts e f = record { none = λ n h. cc }

above_size : (z : ℤ) → pos (suc (unsigned_abs z)) ≤ℤ z → ⊥
above_size (pos k) i = omega (arith, ints)
above_size (negsuc k) i = omega (arith, ints)

-- what stays above a number however far it goes does not fall, and the other way round
far_above : (a b c r : ℤ) → pos 0 <ℤ c → ((k : ℕ) → a ≤ℤ (b +ℤ pos k *ℤ c *ℤ r)) → int_le (pos 0) r ≡ true
far_above a b c r l h = by (int_le (pos 0) r) refl
  where
    by : (v : Bool) → int_le (pos 0) r ≡ v → v ≡ true
    by true e = refl
    by false e =
        let less : r <ℤ pos 0 = grind (arith, ints) in
        let n : ℕ = suc (unsigned_abs (b -ℤ a)) in
        let f = mul_negative c r l less in
        let g = le_mul (pos n) (c *ℤ r) (negsuc 0) (omega (arith, ints)) (omega (arith, ints, f)) in
        let m : pos n *ℤ negsuc 0 ≡ neg_ℤ (pos n) = mul_neg (pos n) (pos 1) ∙ ap neg_ℤ (mul_one (pos n)) in
        let s = mul_assoc (pos n) c r in
        let t = h n in
        absurd (above_size (b -ℤ a) (omega (arith, ints, g, m, s, t)))

far_below : (a b c r : ℤ) → pos 0 <ℤ c → ((k : ℕ) → (b +ℤ pos k *ℤ c *ℤ r) ≤ℤ a) → int_le r (pos 0) ≡ true
far_below a b c r l h = by (int_le r (pos 0)) refl
  where
    by : (v : Bool) → int_le r (pos 0) ≡ v → v ≡ true
    by true e = refl
    by false e =
        let more : pos 0 <ℤ r = grind (arith, ints) in
        let n : ℕ = suc (unsigned_abs (a -ℤ b)) in
        let f = mul_pos c r l more in
        let g = le_mul (pos n) (pos 1) (c *ℤ r) (omega (arith, ints)) (omega (arith, ints, f)) in
        let m = mul_one (pos n) in
        let s = mul_assoc (pos n) c r in
        let t = h n in
        absurd (above_size (a -ℤ b) (omega (arith, ints, g, m, s, t)))

low_kept : (end : Option Fraction) (x over r : ℤ) → pos 0 <ℤ over → IsEndLowest end → ((k : ℕ) → is_above end (x +ℤ pos k *ℤ over *ℤ r) over ≡ true) → keeps_low end r ≡ true
low_kept None x over r l e h = refl
low_kept (Some f) x over r l e h =
    far_above (f.num *ℤ over) (f.den *ℤ x) (f.den *ℤ over) r (mul_pos f.den over (e f refl).positive l)
    (λ k.
    let a = le_of (f.num *ℤ over) (f.den *ℤ (x +ℤ pos k *ℤ over *ℤ r)) (h k) in
    let q : f.den *ℤ (x +ℤ pos k *ℤ over *ℤ r) ≡ f.den *ℤ x +ℤ pos k *ℤ (f.den *ℤ over) *ℤ r = simp products refl in
    omega (arith, ints, a, q))

high_kept : (end : Option Fraction) (x over r : ℤ) → pos 0 <ℤ over → IsEndLowest end → ((k : ℕ) → is_below end (x +ℤ pos k *ℤ over *ℤ r) over ≡ true) → keeps_high end r ≡ true
high_kept None x over r l e h = refl
high_kept (Some f) x over r l e h =
    far_below (f.num *ℤ over) (f.den *ℤ x) (f.den *ℤ over) r (mul_pos f.den over (e f refl).positive l)
    (λ k.
    let a = le_of (f.den *ℤ (x +ℤ pos k *ℤ over *ℤ r)) (f.num *ℤ over) (h k) in
    let q : f.den *ℤ (x +ℤ pos k *ℤ over *ℤ r) ≡ f.den *ℤ x +ℤ pos k *ℤ (f.den *ℤ over) *ℤ r = simp products refl in
    omega (arith, ints, a, q))

vars_none : (vs : List VarValue) (j : ℕ) (nums ray : ℕ → ℤ) (over : ℤ) → pos 0 <ℤ over → All (λ v. AreEndsLowest v.2) vs
    → ((k : ℕ) → vars_take vs j (λ i. nums i +ℤ pos k *ℤ over *ℤ ray i) over ≡ true) → NoneFails (ray_tests_of_vars vs j ray)
vars_none [] j nums ray over l e h = nothing
vars_none (v ∷ vs) j nums ray over l e h =
    let ends = All-head (λ v. AreEndsLowest v.2) v vs e in
    let here : (k : ℕ) → takes v (nums j +ℤ pos k *ℤ over *ℤ ray j) over ≡ true =
    λ k. and_first (takes v (nums j +ℤ pos k *ℤ over *ℤ ray j) over) (vars_take vs (j + 1) (λ i. nums i +ℤ pos k *ℤ over *ℤ ray i) over) (h k) in
    let in_ends : (k : ℕ) → (is_above v.2.low (nums j +ℤ pos k *ℤ over *ℤ ray j) over && is_below v.2.high (nums j +ℤ pos k *ℤ over *ℤ ray j) over) ≡ true =
    λ k. and_first (is_above v.2.low (nums j +ℤ pos k *ℤ over *ℤ ray j) over && is_below v.2.high (nums j +ℤ pos k *ℤ over *ℤ ray j) over) (is_of_kind v.1 (nums j +ℤ pos k *ℤ over *ℤ ray j) over) (here k) in
    let low = low_kept v.2.low (nums j) over (ray j) l ends.0 (λ k. and_first (is_above v.2.low (nums j +ℤ pos k *ℤ over *ℤ ray j) over) (is_below v.2.high (nums j +ℤ pos k *ℤ over *ℤ ray j) over) (in_ends k)) in
    let high = high_kept v.2.high (nums j) over (ray j) l ends.1 (λ k. and_second (is_above v.2.low (nums j +ℤ pos k *ℤ over *ℤ ray j) over) (is_below v.2.high (nums j +ℤ pos k *ℤ over *ℤ ray j) over) (in_ends k)) in
    both (ray_tests_of_var v (ray j)) (ray_tests_of_vars vs (j + 1) ray)
    (passing (keeps_low v.2.low (ray j)) v.3 (test_of (keeps_high v.2.high (ray j)) v.3 ∷ []) low (passing (keeps_high v.2.high (ray j)) v.3 [] high nothing))
    (vars_none vs (j + 1) nums ray over l (All-tail (λ v. AreEndsLowest v.2) v vs e)
    (λ k. and_second (takes v (nums j +ℤ pos k *ℤ over *ℤ ray j) over) (vars_take vs (j + 1) (λ i. nums i +ℤ pos k *ℤ over *ℤ ray i) over) (h k)))

stands_kept : (rel : Rel) (x b c r : ℤ) → pos 0 <ℤ c → ((k : ℕ) → stands rel (x +ℤ pos k *ℤ c *ℤ r) b ≡ true) → stands rel r (pos 0) ≡ true
stands_kept AtMost x b c r l h = far_below b x c r l (λ k. le_of (x +ℤ pos k *ℤ c *ℤ r) b (h k))
stands_kept AtLeast x b c r l h = far_above b x c r l (λ k. le_of b (x +ℤ pos k *ℤ c *ℤ r) (h k))
stands_kept Equal x b c r l h =
    and_from (int_le r (pos 0)) (int_le (pos 0) r)
    (far_below b x c r l (λ k. le_of (x +ℤ pos k *ℤ c *ℤ r) b (and_first (int_le (x +ℤ pos k *ℤ c *ℤ r) b) (int_le b (x +ℤ pos k *ℤ c *ℤ r)) (h k))))
    (far_above b x c r l (λ k. le_of b (x +ℤ pos k *ℤ c *ℤ r) (and_second (int_le (x +ℤ pos k *ℤ c *ℤ r) b) (int_le b (x +ℤ pos k *ℤ c *ℤ r)) (h k))))

row_kept : (r : RowValue) (p : PointOf) (ray : ℕ → ℤ) → pos 0 <ℤ p.over → ((k : ℕ) → holds_at r p.over (along p ray k).nums ≡ true) → stands r.rel (dot r.terms ray) (pos 0) ≡ true
row_kept r p ray l h =
    stands_kept r.rel (dot r.terms p.nums) (r.right *ℤ p.over) p.over (dot r.terms ray) l
    (λ k. subst (λ z. stands r.rel z (r.right *ℤ p.over) ≡ true) (sum_along r.terms p.nums ray p.over k) (h k))

rows_none : (rs : List (RowValue × ℕ)) (p : PointOf) (ray : ℕ → ℤ) → pos 0 <ℤ p.over → ((k : ℕ) → rows_hold rs (along p ray k) ≡ true) → NoneFails (map (ray_test_of_row ray) rs)
rows_none [] p ray l h = nothing
rows_none (r ∷ rs) p ray l h =
    sized (sum_fits (pos 0) r.0.terms ray) (stands r.0.rel (dot r.0.terms ray) (pos 0)) r.1 (map (ray_test_of_row ray) rs)
    (row_kept r.0 p ray l (λ k. and_first (holds_at r.0 p.over (along p ray k).nums) (rows_hold rs (along p ray k)) (h k)))
    (rows_none rs p ray l (λ k. and_second (holds_at r.0 p.over (along p ray k).nums) (rows_hold rs (along p ray k)) (h k)))

chosen : (on : Bool) (x : ℕ → Bool) (z : Bool) (ts : List Test) → (((k : ℕ) → x k ≡ true) → NoneFails ts) → ((k : ℕ) → (if on then x k else z) ≡ true) → NoneFails (if on then ts else [])
chosen true x z ts f h = f h
chosen false x z ts f h = nothing

mutual
  block_none : (b : BlockTree) (p : PointOf) (ray : ℕ → ℤ) → pos 0 <ℤ p.over → ((k : ℕ) → is_satisfied b (along p ray k) ≡ true) → NoneFails (ray_tests_of_block b p.truths ray)
  block_none (block items ds) p ray l h =
      both (map (ray_test_of_row ray) items.rows) (ray_tests_of_disjunctions ds p.truths ray)
      (rows_none items.rows p ray l (λ k. and_first (rows_hold items.rows (along p ray k)) (props_hold items.props p.truths && are_disjunctions_satisfied ds (along p ray k)) (h k)))
      (disjunctions_none ds p ray l (λ k. and_second (props_hold items.props p.truths) (are_disjunctions_satisfied ds (along p ray k))
      (and_second (rows_hold items.rows (along p ray k)) (props_hold items.props p.truths && are_disjunctions_satisfied ds (along p ray k)) (h k))))

  disjunctions_none : (ds : Disjunctions) (p : PointOf) (ray : ℕ → ℤ) → pos 0 <ℤ p.over → ((k : ℕ) → are_disjunctions_satisfied ds (along p ray k) ≡ true) → NoneFails (ray_tests_of_disjunctions ds p.truths ray)
  disjunctions_none no_disjunctions p ray l h = nothing
  disjunctions_none (disjunction head js ds) p ray l h =
      let allowed = mode_allows head.mode (true_count js p.truths) in
      both (ray_tests_of_disjuncts js p.truths ray) (ray_tests_of_disjunctions ds p.truths ray)
      (disjuncts_none js p ray l (λ k. and_second allowed (are_disjuncts_satisfied js (along p ray k)) (and_first (allowed && are_disjuncts_satisfied js (along p ray k)) (are_disjunctions_satisfied ds (along p ray k)) (h k))))
      (disjunctions_none ds p ray l (λ k. and_second (allowed && are_disjuncts_satisfied js (along p ray k)) (are_disjunctions_satisfied ds (along p ray k)) (h k)))

  disjuncts_none : (js : Disjuncts) (p : PointOf) (ray : ℕ → ℤ) → pos 0 <ℤ p.over → ((k : ℕ) → are_disjuncts_satisfied js (along p ray k) ≡ true) → NoneFails (ray_tests_of_disjuncts js p.truths ray)
  disjuncts_none no_disjuncts p ray l h = nothing
  disjuncts_none (disjunct head b js) p ray l h =
      let on = p.truths head.indicator in
      both (if on then ray_tests_of_block b p.truths ray else []) (ray_tests_of_disjuncts js p.truths ray)
      (chosen on (λ k. is_satisfied b (along p ray k)) (is_off b p.truths) (ray_tests_of_block b p.truths ray) (λ g. block_none b p ray l g)
      (λ k. and_first (if on then is_satisfied b (along p ray k) else is_off b p.truths) (are_disjuncts_satisfied js (along p ray k)) (h k)))
      (disjuncts_none js p ray l (λ k. and_second (if on then is_satisfied b (along p ray k) else is_off b p.truths) (are_disjuncts_satisfied js (along p ray k)) (h k)))

dot_negated : (ts : List (ℕ × ℤ)) (v : ℕ → ℤ) → dot (map (λ t. (t.0, neg_ℤ t.1)) ts) v ≡ neg_ℤ (dot ts v)
dot_negated [] v = refl
dot_negated (t ∷ ts) v = let e = dot_negated ts v in let f = neg_mul t.1 (v t.0) in omega (arith, ints, e, f)

less_is : (a b : ℤ) → a <ℤ b → int_lt a b ≡ true
less_is a b h = grind (arith, ints)

goal_falls : (sense : Sense) (terms : List (ℕ × ℤ)) (constant over : ℤ) (nums ray : ℕ → ℤ) → pos 0 <ℤ over
    → IsBetter sense (dot terms (λ j. nums j +ℤ pos 1 *ℤ over *ℤ ray j) +ℤ constant *ℤ over) (dot terms (λ j. nums j +ℤ pos 0 *ℤ over *ℤ ray j) +ℤ constant *ℤ over) → dot (minimised sense terms) ray <ℤ pos 0
goal_falls Min terms constant over nums ray l h =
    let a = sum_along terms nums ray over 1 in
    let b = sum_along terms nums ray over 0 in
    let s : pos 1 *ℤ over *ℤ dot terms ray ≡ over *ℤ dot terms ray = simp products refl in
    let t : pos 0 *ℤ over *ℤ dot terms ray ≡ pos 0 = simp products refl in
    negative_cancel over (dot terms ray) l (omega (arith, ints, a, b, s, t, h))
goal_falls Max terms constant over nums ray l h =
    let a = sum_along terms nums ray over 1 in
    let b = sum_along terms nums ray over 0 in
    let s : pos 1 *ℤ over *ℤ dot terms ray ≡ over *ℤ dot terms ray = simp products refl in
    let t : pos 0 *ℤ over *ℤ dot terms ray ≡ pos 0 = simp products refl in
    let d = pos_cancel over (dot terms ray) l (omega (arith, ints, a, b, s, t, h)) in
    let e = dot_negated terms ray in
    omega (arith, ints, d, e)

pub ray_does_not_fail : RayDoesNotFail
ray_does_not_fail m p ray sound h =
    let over = (h 0).point.over in
    let points : (k : ℕ) → (vars_take m.vars 0 (along p ray k).nums p.over && is_satisfied m.root (along p ray k)) ≡ true = λ k. (h k).point.point in
    let vars = vars_none m.vars 0 p.nums ray p.over over sound.ends (λ k. and_first (vars_take m.vars 0 (along p ray k).nums p.over) (is_satisfied m.root (along p ray k)) (points k)) in
    let root = block_none m.root p ray over (λ k. and_second (vars_take m.vars 0 (along p ray k).nums p.over) (is_satisfied m.root (along p ray k)) (points k)) in
    let falls = less_is (dot (minimised m.goal.sense m.goal.terms) ray) (pos 0) (goal_falls m.goal.sense m.goal.terms m.goal.constant p.over p.nums ray over (h 0).better) in
    let goal = sized (sum_fits (pos 0) (minimised m.goal.sense m.goal.terms) ray) (int_lt (dot (minimised m.goal.sense m.goal.terms) ray) (pos 0)) m.goal.mark [] falls nothing in
    (both (ray_tests_of_vars m.vars 0 ray) (ray_tests_of_block m.root p.truths ray ++ ray_test_of_goal m.goal ray ∷ []) vars (both (ray_tests_of_block m.root p.truths ray) (ray_test_of_goal m.goal ray ∷ []) root goal)).none
