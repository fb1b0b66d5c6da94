-- The cut of a program's point is a point of the model, with the same value.
use Rattle.std.proofs.Common.{◌≡◌, ◌≤◌, ◌<◌, ◌+◌, ◌%◌, ℕ, zero, suc, ℤ, pos, ◌≤ℤ◌, ◌<ℤ◌, Bool, true, false, List, [], ◌∷◌, length, All, refl, sym, ◌∙◌, subst, arith}
use Rattle.std.specs.Prelude.{unsigned_abs, slice_index_or}
use Rattle.std.specs.List.{list_all}
use Rattle.std.proofs.lemmas.Int.{ints}
use Rattle.std.proofs.lemmas.Bool.Decides.{nat_tests}
use Rattle.std.proofs.lemmas.List.Elements.{All-head, All-tail}
use Rattle.int_linear.specs.Sums.{at}
use Rattle.lp_rows.specs.declared.columns.Col.{Col}
use Rattle.lp_rows.specs.declared.columns.Sign.{Sign}
use Rattle.lp_rows.specs.declared.columns.Sign.TheVariants.{Free, Nonneg}
use Rattle.lp_rows.specs.declared.kinds.Kind.{Kind}
use Rattle.lp_rows.specs.declared.kinds.Kind.TheVariants.{Real, Int}
use Rattle.lp_rows.specs.Holding.{holds_at}
use Rattle.lp_rows.specs.Points.{PointValue}
use Rattle.lp_frame.specs.Split.{sign_at}
use Rattle.point_tests.specs.Satisfied.{point_of, is_of_kind}
use Rattle.model_tree.specs.Sound.{IsSound}
use Rattle.model_tree.specs.Values.{ModelTree}
use Rattle.milps.specs.Milps.{MilpValue, has_sign, col_takes, cols_take, is_milp_point}
use Rattle.milps.proofs.Columned.{and_true}
use Rattle.hybrid_rewrite.proofs.Cutting.{Agree, points_agree}
use Rattle.hybrid_rewrite.specs.Rewritten.{cut_of}
use Rattle.milp_forces.specs.Milps.{kind_at, IsMilpPoint}
use Rattle.model_claims.specs.Claims.{IsPoint}
use Rattle.hybrid_rewrite.specs.Rewritten.{IsExactRewrite}
use Rattle.rewrite_solving.specs.Cuts.{IsCutOf}
use Rattle.rewrite_solving.specs.Laws.{CutsArePoints}

kind_holds : (k : Kind) (x over : ℤ) → (k ≡ Int → unsigned_abs x % unsigned_abs over ≡ 0) → is_of_kind k x over ≡ true
kind_holds Real x over h = refl
kind_holds Int x over h = let e = h refl in grind (arith, nat_tests)

sign_holds : (s : Sign) (x : ℤ) → (s ≡ Nonneg → pos 0 ≤ℤ x) → has_sign s x ≡ true
sign_holds Free x h = refl
sign_holds Nonneg x h = let l = h refl in grind (arith, ints)

cols_hold : (cs : List Col) (j : ℕ) (over : ℤ) (w : ℕ → ℤ) → ((i : ℕ) → i < length cs → kind_at cs i ≡ Int → unsigned_abs (w (j + i)) % unsigned_abs over ≡ 0)
    → ((i : ℕ) → i < length cs → sign_at cs i ≡ Nonneg → pos 0 ≤ℤ w (j + i)) → cols_take cs j over w ≡ true
cols_hold [] j over w whole signs = refl
cols_hold (c ∷ cs) j over w whole signs =
    let z : j + 0 ≡ j = omega arith in
    and_true (col_takes c (w j) over) (cols_take cs (j + 1) over w)
    (and_true (is_of_kind c.kind (w j) over) (has_sign c.sign (w j))
    (kind_holds c.kind (w j) over (λ e. subst (λ i. unsigned_abs (w i) % unsigned_abs over ≡ 0) z (whole 0 (omega arith) e)))
    (sign_holds c.sign (w j) (λ e. subst (λ i. pos 0 ≤ℤ w i) z (signs 0 (omega arith) e))))
    (cols_hold cs (j + 1) over w
    (λ i l e. subst (λ n. unsigned_abs (w n) % unsigned_abs over ≡ 0) (omega arith) (whole (suc i) (omega (arith, l)) e))
    (λ i l e. subst (λ n. pos 0 ≤ℤ w n) (omega arith) (signs (suc i) (omega (arith, l)) e)))

all_hold : {A : Type 0} (test : A → Bool) (xs : List A) → All (λ x. test x ≡ true) xs → list_all test xs ≡ true
all_hold test [] h = refl
all_hold test (x ∷ xs) h = and_true (test x) (list_all test xs) (All-head (λ x. test x ≡ true) x xs h) (all_hold test xs (All-tail (λ x. test x ≡ true) x xs h))

-- the other way of the bridge between the two words for a program's point
pub is_point : (milp : MilpValue) (over : ℤ) (w : ℕ → ℤ) → IsMilpPoint milp over w → is_milp_point milp over w ≡ true
is_point milp over w h =
    and_true (cols_take milp.cols 0 over w) (list_all (λ r. holds_at r over w) milp.rows)
    (cols_hold milp.cols 0 over w (λ i l e. subst (λ n. unsigned_abs (w n) % unsigned_abs over ≡ 0) (omega arith) (h.whole i l e)) (λ i l e. subst (λ n. pos 0 ≤ℤ w n) (omega arith) (h.signs i l e)))
    (all_hold (λ r. holds_at r over w) milp.rows h.rows)

pub past_end : (bs : List Bool) (k : ℕ) → length bs ≤ k → slice_index_or bs k false ≡ false
past_end [] k h = refl
past_end (b ∷ bs) zero h = absurd (omega arith)
past_end (b ∷ bs) (suc k) h = past_end bs k (omega arith)

pub cut_agrees : (m : ModelTree) (x p : PointValue) (truths : List Bool) → IsCutOf m x p truths → Agree (length m.vars) (length m.booleans) (point_of p truths) (cut_of m x.over (at x.nums))
cut_agrees m x p truths c = record { over = c.over; nums = c.nums; truths = c.are_truths }

pub cut_is_point : (m : ModelTree) (milp : MilpValue) (x p : PointValue) (truths : List Bool) → IsSound m → IsExactRewrite m milp → pos 0 <ℤ x.over → IsMilpPoint milp x.over (at x.nums) → IsCutOf m x p truths → IsPoint m (point_of p truths)
cut_is_point m milp x p truths s e l h c = record {
  over = subst (λ z. pos 0 <ℤ z) (sym c.over) l;
  short = λ k b. past_end truths k (subst (λ n. n ≤ k) (sym c.flags) b);
  point = points_agree m (point_of p truths) (cut_of m x.over (at x.nums)) s (cut_agrees m x p truths c) ∙ e.cuts x.over (at x.nums) l (is_point milp x.over (at x.nums) h);
}

pub cuts_are_points : CutsArePoints
cuts_are_points m milp b proof x truths s e r c = let p = r.0.0 in cut_is_point m milp b.at x truths s e p.over p.point c
