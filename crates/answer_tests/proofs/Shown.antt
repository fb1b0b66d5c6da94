-- What passing the tests of a claim shows.
use Rattle.std.proofs.Common.{◌≡◌, ℕ, zero, suc, ◌≤◌, length, subst, ℤ, pos, neg_ℤ, ◌+ℤ◌, ◌*ℤ◌, ◌<ℤ◌, Bool, true, false, List, [], ◌∷◌, ◌++◌, map, int_lt, slice_index_or, Result, Ok, Err, refl, ap, sym, ◌∙◌, arith, if◌then◌else◌}
use Rattle.std.proofs.lemmas.Int.{ints}
use Rattle.int_linear.specs.Sums.{at}
use Rattle.int_linear.specs.Terms.{dot}
use Rattle.int_linear.proofs.Ring.{neg_mul, add_mul, mul_pos, one_mul}
use Rattle.int_linear.proofs.Signs.{mul_negative}
use Rattle.lp_rows.specs.declared.kinds.Sense.{Sense}
use Rattle.lp_rows.specs.declared.kinds.Sense.TheVariants.{Min, Max}
use Rattle.lp_rows.specs.Holding.{sum_fits}
use Rattle.lp_rows.specs.Points.{PointValue}
use Rattle.point_tests.specs.declared.verdicts.Verdict.{Verdict}
use Rattle.point_tests.specs.declared.verdicts.Verdict.TheVariants.{Holds, FailsAt}
use Rattle.point_tests.specs.declared.verdicts.SumWide.{SumWide}
use Rattle.point_tests.specs.Satisfied.{PointOf, point_of, vars_take, is_satisfied, is_model_point}
use Rattle.model_tree.specs.Sound.{IsSound}
use Rattle.point_tests.specs.Tests.{Tells, verdict_of, tests_of}
use Rattle.model_tree.specs.Values.{ModelTree}
use Rattle.point_tests.specs.Worth.{whole_value, value_fits}
use Rattle.int_linear.proofs.Bools.{and_first, and_second, and_from}
use Rattle.point_tests.proofs.SatisfiedLemmas.{model_tells}
use Rattle.answers.specs.declared.claim.Claim.TheVariants.{Best, Empty, Endless}
use Rattle.answer_tests.specs.declared.errors.AnswerError.{AnswerError}
use Rattle.answer_tests.specs.declared.errors.AnswerError.TheVariants.{Value, ValueWide}
use Rattle.model_claims.specs.Claims.{IsPoint, IsBetter, along, IsEndlessAt}
use Rattle.answer_tests.specs.Groups.{first_error, point_error, point_group, is_value, value_group, ray_error, ray_group}
use Rattle.answer_tests.specs.Laws.{TestsShow}
use Rattle.answer_tests.specs.Rays.{minimised, ray_tests_of_vars, ray_tests_of_block, ray_test_of_goal, ray_tests, verdict_along}
use Rattle.answer_tests.proofs.Values.{equal_is}
use Rattle.answer_tests.proofs.Alongs.{parts_pass, sized_passes, vars_along, sum_along, block_along}

-- the first group passes, and so do the others
pub passed : {E : Type 0} (r : Result (Unit {0}) E) (groups : List (Result (Unit {0}) E)) → first_error (r ∷ groups) ≡ Ok tt → (r ≡ Ok tt) × (first_error groups ≡ Ok tt)
passed (Ok tt) groups h = (refl, h)
passed (Err error) groups h = absurd cc

point_holds : (v : Result Verdict SumWide) (condition : Bool) → Tells v condition → point_error v ≡ Ok tt → condition ≡ true
point_holds (Ok Holds) condition t h = t
point_holds (Ok (FailsAt mark)) condition t h = absurd cc
point_holds (Err wide) condition t h = absurd cc

ray_passes : (v : Result Verdict SumWide) → ray_error v ≡ Ok tt → v ≡ Ok Holds
ray_passes (Ok Holds) h = refl
ray_passes (Ok (FailsAt mark)) h = absurd cc
ray_passes (Err wide) h = absurd cc

abbrev told : Bool → Bool → Result (Unit {0}) AnswerError
told fit same = if fit then (if same then Ok tt else Err Value) else Err ValueWide

value_passes : (fit same : Bool) → told fit same ≡ Ok tt → same ≡ true
value_passes true true h = refl
value_passes true false h = absurd cc
value_passes false same h = absurd cc

past_end : (truths : List Bool) (k : ℕ) → length truths ≤ k → slice_index_or truths k false ≡ false
past_end [] k l = refl
past_end (t ∷ ts) zero l = absurd (omega arith)
past_end (t ∷ ts) (suc k) l = past_end ts k (omega arith)

shown_point : (m : ModelTree) (x : PointValue) (truths : List Bool) → pos 0 <ℤ x.over → length truths ≡ length m.booleans → point_group m x truths ≡ Ok tt → IsPoint m (point_of x truths)
shown_point m x truths l c h = record { over = l; short = λ k b. past_end truths k (subst (λ n. n ≤ k) (sym c) b); point = point_holds (verdict_of (tests_of m (point_of x truths))) (is_model_point m (point_of x truths)) (model_tells m (point_of x truths)) h }

dot_negated : (ts : List (ℕ × ℤ)) (v : ℕ → ℤ) → dot (map (λ t. (t.0, neg_ℤ t.1)) ts) v ≡ neg_ℤ (dot ts v)
dot_negated [] v = refl
dot_negated (t ∷ ts) v = let e = dot_negated ts v in let f = neg_mul t.1 (v t.0) in omega (arith, ints, e, f)

less_of : (a b : ℤ) → int_lt a b ≡ true → a <ℤ b
less_of a b h = grind (arith, ints)

-- one step further along the ray
step : (over d : ℤ) (k : ℕ) → pos (suc k) *ℤ over *ℤ d ≡ pos k *ℤ over *ℤ d +ℤ over *ℤ d
step over d k =
    let s : pos (suc k) ≡ pos k +ℤ pos 1 = omega (arith, ints) in
    ap (λ z. z *ℤ over *ℤ d) s ∙ ap (λ z. z *ℤ d) (add_mul (pos k) (pos 1) over) ∙ add_mul (pos k *ℤ over) (pos 1 *ℤ over) d ∙ ap (λ z. pos k *ℤ over *ℤ d +ℤ z *ℤ d) (one_mul over)

better_by : (sense : Sense) (terms : List (ℕ × ℤ)) (constant over : ℤ) (nums ray : ℕ → ℤ) (k : ℕ) → pos 0 <ℤ over → dot (minimised sense terms) ray <ℤ pos 0
    → IsBetter sense (dot terms (λ j. nums j +ℤ pos (suc k) *ℤ over *ℤ ray j) +ℤ constant *ℤ over) (dot terms (λ j. nums j +ℤ pos k *ℤ over *ℤ ray j) +ℤ constant *ℤ over)
better_by Min terms constant over nums ray k l h =
    let a = sum_along terms nums ray over (suc k) in
    let b = sum_along terms nums ray over k in
    let s = step over (dot terms ray) k in
    let n = mul_negative over (dot terms ray) l h in
    omega (arith, ints, a, b, s, n)
better_by Max terms constant over nums ray k l h =
    let a = sum_along terms nums ray over (suc k) in
    let b = sum_along terms nums ray over k in
    let s = step over (dot terms ray) k in
    let e = dot_negated terms ray in
    let n = mul_pos over (dot terms ray) l (omega (arith, ints, e, h)) in
    omega (arith, ints, a, b, s, n)

shown_ray : (m : ModelTree) (p : PointOf) (ray : ℕ → ℤ) → IsSound m → IsPoint m p → verdict_of (ray_tests m p.truths ray) ≡ Ok Holds → (k : ℕ) → IsEndlessAt m p ray k
shown_ray m p ray sound on h k =
    let v = parts_pass (ray_tests_of_vars m.vars 0 ray) (ray_tests_of_block m.root p.truths ray ++ ray_test_of_goal m.goal ray ∷ []) h in
    let w = parts_pass (ray_tests_of_block m.root p.truths ray) (ray_test_of_goal m.goal ray ∷ []) v.1 in
    let g = sized_passes (sum_fits (pos 0) (minimised m.goal.sense m.goal.terms) ray) (int_lt (dot (minimised m.goal.sense m.goal.terms) ray) (pos 0)) m.goal.mark [] w.1 in
    record {
      point = record {
        over = on.over;
        short = on.short;
        point = and_from (vars_take m.vars 0 (along p ray k).nums p.over) (is_satisfied m.root (along p ray k))
            (vars_along m.vars 0 p.nums ray p.over k on.over sound.ends (and_first (vars_take m.vars 0 p.nums p.over) (is_satisfied m.root p) on.point) v.0)
            (block_along m.root p ray k on.over (and_second (vars_take m.vars 0 p.nums p.over) (is_satisfied m.root p) on.point) w.0);
      };
      better = better_by m.goal.sense m.goal.terms m.goal.constant p.over p.nums ray k on.over (less_of (dot (minimised m.goal.sense m.goal.terms) ray) (pos 0) g.0);
    }

pub tests_show : TestsShow
tests_show m (Best x truths value proof) sound counted is h =
    let a = passed (point_group m x truths) (value_group m.goal x value ∷ []) h in
    let b = passed (value_group m.goal x value) [] a.1 in (
      shown_point m x truths is.0 counted.1 a.0,
      equal_is (value.num *ℤ (m.goal.scale *ℤ x.over)) (whole_value m.goal x *ℤ value.den) (value_passes (value_fits m.goal x) (is_value m.goal x value) b.0),
    )
tests_show m (Empty proof) sound counted is h = tt
tests_show m (Endless x truths ray) sound counted is h =
    let a = passed (point_group m x truths) (ray_group m truths ray ∷ []) h in
    let b = passed (ray_group m truths ray) [] a.1 in
    shown_ray m (point_of x truths) (at ray) sound (shown_point m x truths is counted.1 a.0) (ray_passes (verdict_along m truths ray) b.0)
