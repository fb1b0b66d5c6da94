-- The tests of claims that are made.
use Rattle.std.proofs.Common.{◌≡◌, ◌≢◌, ℤ, ◌*ℤ◌, Bool, true, false, List, [], ◌∷◌, None, Result, Ok, Err, refl, sym, if◌then◌else◌, ℕ}
use Rattle.fractions.specs.Fraction.{Fraction}
use Rattle.lp_rows.specs.Points.{PointValue}
use Rattle.proof_tree.specs.declared.proof.Node.{Node}
use Rattle.point_tests.specs.declared.verdicts.Verdict.{Verdict}
use Rattle.point_tests.specs.declared.verdicts.Verdict.TheVariants.{Holds, FailsAt}
use Rattle.point_tests.specs.declared.verdicts.SumWide.{SumWide}
use Rattle.point_tests.specs.Satisfied.{point_of}
use Rattle.point_tests.specs.Tests.{Tells, verdict_of, tests_of}
use Rattle.model_tree.specs.Values.{GoalValue, ModelTree}
use Rattle.point_tests.specs.Worth.{IsValueOf, whole_value, value_fits}
use Rattle.point_tests.proofs.SatisfiedLemmas.{model_tells}
use Rattle.answers.specs.declared.claim.Claim.TheVariants.{Best, Endless}
use Rattle.answer_tests.specs.declared.errors.AnswerError.{AnswerError}
use Rattle.answer_tests.specs.declared.errors.AnswerError.TheVariants as answer_error
use Rattle.answer_tests.specs.Groups.{first_error, point_error, point_group, is_value, value_group, ray_group, ray_error}
use Rattle.answer_tests.proofs.Values.{is_equal}
use Rattle.lowest_terms.specs.Made.{size_group, wide_place, IsBestOf, IsEndlessOf}
use Rattle.lowest_terms.specs.Laws.{OnlyWide, OnlyWideEndless}
use Rattle.lowest_terms.proofs.Endless.{ray_does_not_fail}
use Rattle.int_linear.specs.Sums.{at}
use Rattle.answer_tests.specs.Rays.{verdict_along}
use Rattle.lowest_terms.proofs.Scaled.{keeps_point}

value_passes : (g : GoalValue) (y : PointValue) (v : Fraction) → IsValueOf g y v → true ≡ value_fits g y → value_group g y v ≡ Ok tt
value_passes g y v h f =
    let e : is_value g y v ≡ true = is_equal (v.num *ℤ (g.scale *ℤ y.over)) (whole_value g y *ℤ v.den) h.same in
    rw (← f, e) refl

both_pass : (p q : Result (Unit {0}) AnswerError) → Ok tt ≡ p → q ≡ Ok tt → first_error (p ∷ q ∷ []) ≡ Ok tt
both_pass p q h k = rw (← h, k) refl

first_fails : (p q : Result (Unit {0}) AnswerError) (e : AnswerError) → Err e ≡ p → first_error (p ∷ q ∷ []) ≡ Err e
first_fails p q e h = rw (← h) refl

second_fails : (p q : Result (Unit {0}) AnswerError) (e : AnswerError) → Ok tt ≡ p → Err e ≡ q → first_error (p ∷ q ∷ []) ≡ Err e
second_fails p q e h k = rw (← h, ← k) refl

pub best_passes : (m : ModelTree) (y : PointValue) (truths : List Bool) (proof : List Node) (v : Fraction) → Ok tt ≡ point_group m y truths → IsValueOf m.goal y v → true ≡ value_fits m.goal y
    → IsBestOf m y truths proof (Ok (Best y truths v proof))
best_passes m y truths proof v h k f = (v, refl, both_pass (point_group m y truths) (value_group m.goal y v) h (value_passes m.goal y v k f), k)

pub best_fails : (m : ModelTree) (y : PointValue) (truths : List Bool) (proof : List Node) (e : AnswerError) → Err e ≡ point_group m y truths → IsBestOf m y truths proof (Err e)
best_fails m y truths proof e h = first_fails (point_group m y truths) (size_group m.goal y) e h

abbrev sized : Bool → Result (Unit {0}) AnswerError
sized fit = if fit then Ok tt else Err answer_error.ValueWide

size_wide : (fit : Bool) → false ≡ fit → Err answer_error.ValueWide ≡ sized fit
size_wide fit h = rw (← h) refl

pub best_wide : (m : ModelTree) (y : PointValue) (truths : List Bool) (proof : List Node) → Ok tt ≡ point_group m y truths → false ≡ value_fits m.goal y → IsBestOf m y truths proof (Err answer_error.ValueWide)
best_wide m y truths proof h f = second_fails (point_group m y truths) (size_group m.goal y) answer_error.ValueWide h (size_wide (value_fits m.goal y) f)

pub endless_passes : (m : ModelTree) (y : PointValue) (truths : List Bool) (ray : List ℤ) → Ok tt ≡ point_group m y truths → Ok tt ≡ ray_group m truths ray → IsEndlessOf m y truths ray (Ok (Endless y truths ray))
endless_passes m y truths ray h k = (refl, both_pass (point_group m y truths) (ray_group m truths ray) h (sym k))

pub endless_fails : (m : ModelTree) (y : PointValue) (truths : List Bool) (ray : List ℤ) (e : AnswerError) → Err e ≡ point_group m y truths → IsEndlessOf m y truths ray (Err e)
endless_fails m y truths ray e h = first_fails (point_group m y truths) (ray_group m truths ray) e h

pub ray_fails : (m : ModelTree) (y : PointValue) (truths : List Bool) (ray : List ℤ) (e : AnswerError) → Ok tt ≡ point_group m y truths → Err e ≡ ray_group m truths ray → IsEndlessOf m y truths ray (Err e)
ray_fails m y truths ray e h k = second_fails (point_group m y truths) (ray_group m truths ray) e h k

-- a point's test does not fail at a point
point_wide : (v : Result Verdict SumWide) (e : AnswerError) → Tells v true → point_error v ≡ Err e → wide_place e ≢ None
point_wide (Ok Holds) e t h = absurd cc
point_wide (Ok (FailsAt mark)) e t h = absurd (let x : true ≡ false = t in cc)
point_wide (Err wide) e t h = λ n. let k : answer_error.PointWide wide.mark ≡ e = cc in absurd (let q = rw (← k) at n in cc)

value_wide : (fit : Bool) (e : AnswerError) → sized fit ≡ Err e → wide_place e ≢ None
value_wide true e h = absurd cc
value_wide false e h = λ n. let k : answer_error.ValueWide ≡ e = cc in absurd (let q = rw (← k) at n in cc)

wide_in : (p q : Result (Unit {0}) AnswerError) (e : AnswerError) → (p ≡ Err e → wide_place e ≢ None) → (q ≡ Err e → wide_place e ≢ None) → first_error (p ∷ q ∷ []) ≡ Err e → wide_place e ≢ None
wide_in (Ok u) (Ok v) e f g h = absurd cc
wide_in (Ok u) (Err d) e f g h = g h
wide_in (Err d) q e f g h = f h

pub only_wide : OnlyWide
only_wide m x y truths error sound low on h =
    let there = keeps_point m x y truths sound low on in
    wide_in (point_group m y truths) (size_group m.goal y) error
    (λ e. point_wide (verdict_of (tests_of m (point_of y truths))) error (rw there.point at (model_tells m (point_of y truths))) e)
    (λ e. value_wide (value_fits m.goal y) error e) h

ray_wide : (v : Result Verdict SumWide) (e : AnswerError) → ((mark : ℕ) → v ≡ Ok (FailsAt mark) → ⊥) → ray_error v ≡ Err e → wide_place e ≢ None
ray_wide (Ok Holds) e f h = absurd cc
ray_wide (Ok (FailsAt mark)) e f h = absurd (f mark refl)
ray_wide (Err wide) e f h = λ n. let k : answer_error.RayWide wide.mark ≡ e = cc in absurd (let q = rw (← k) at n in cc)

pub only_wide_endless : OnlyWideEndless
only_wide_endless m x y truths ray error sound low on endless h =
    let there = keeps_point m x y truths sound low on in
    wide_in (point_group m y truths) (ray_group m truths ray) error
    (λ e. point_wide (verdict_of (tests_of m (point_of y truths))) error (rw there.point at (model_tells m (point_of y truths))) e)
    (λ e. ray_wide (verdict_along m truths ray) error (ray_does_not_fail m (point_of x truths) (at ray) sound endless) e) h
