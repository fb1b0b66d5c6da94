-- What is made of a point is one claim, or one test that does not pass.
use Rattle.std.proofs.Common.{◌≡◌, ◌≢◌, ℤ, ◌*ℤ◌, Bool, true, false, List, [], ◌∷◌, Result, Ok, Err, refl, sym, ap, ◌∙◌, subst, if◌then◌else◌}
use Rattle.fractions.proofs.Reduction.{reduced_same}
use Rattle.lp_rows.specs.Points.{PointValue}
use Rattle.proof_tree.specs.declared.proof.Node.{Node}
use Rattle.model_tree.specs.Values.{ModelTree}
use Rattle.point_tests.specs.Worth.{whole_value, value_fits}
use Rattle.answers.specs.declared.claim.Claim.{Claim}
use Rattle.answers.specs.declared.claim.Claim.TheVariants.{Best, Endless}
use Rattle.answer_tests.specs.declared.errors.AnswerError.{AnswerError}
use Rattle.answer_tests.specs.declared.errors.AnswerError.TheVariants.{Value, ValueWide}
use Rattle.answer_tests.specs.Groups.{first_error, claim_groups, point_group, is_value, value_group}
use Rattle.lowest_terms.specs.declared.making.MakeError.{MakeError}
use Rattle.lowest_terms.specs.declared.making.MakeError.TheVariants.{Test, Memory}
use Rattle.lowest_terms.specs.Laws.{MadeOnce}
use Rattle.lowest_terms.specs.Made.{IsBestOf, IsEndlessOf, IsMade, size_group}
use Rattle.lowest_terms.specs.Terms.{IsLowestOf}
use Rattle.lowest_terms.proofs.Rows.{one_lowest}

both_passed : (p q : Result (Unit {0}) AnswerError) → first_error (p ∷ q ∷ []) ≡ Ok tt → (p ≡ Ok tt) × (q ≡ Ok tt)
both_passed (Ok u) (Ok v) h = (refl, refl)
both_passed (Ok u) (Err e) h = absurd cc
both_passed (Err e) q h = absurd cc

never_fails : (p q : Result (Unit {0}) AnswerError) (e : AnswerError) → p ≡ Ok tt → q ≡ Ok tt → first_error (p ∷ q ∷ []) ≡ Err e → ⊥
never_fails (Ok u) (Ok v) e h k f = absurd cc
never_fails (Ok u) (Err x) e h k f = absurd cc
never_fails (Err x) q e h k f = absurd cc

-- the tests of a value, by whether its numbers fit and it is that of the goal
abbrev valued : Bool → Bool → Result (Unit {0}) AnswerError
valued fit is = if fit then (if is then Ok tt else Err Value) else Err ValueWide

abbrev sized : Bool → Result (Unit {0}) AnswerError
sized fit = if fit then Ok tt else Err ValueWide

fits_too : (fit is : Bool) → valued fit is ≡ Ok tt → sized fit ≡ Ok tt
fits_too true is h = refl
fits_too false is h = absurd cc

passed_or_failed : (r : Result (Unit {0}) AnswerError) (e : AnswerError) → r ≡ Ok tt → r ≡ Err e → ⊥
passed_or_failed (Ok u) e h k = absurd cc
passed_or_failed (Err x) e h k = absurd cc

same_error : (r : Result (Unit {0}) AnswerError) (e f : AnswerError) → r ≡ Err e → r ≡ Err f → ◌≡◌ {A = Result Claim AnswerError} (Err e) (Err f)
same_error r e f h k = let s : ◌≡◌ {A = Result (Unit {0}) AnswerError} (Err e) (Err f) = sym h ∙ k in let t : e ≡ f = cc in ap Err t

best_or_error : (m : ModelTree) (y : PointValue) (truths : List Bool) (proof : List Node) (claim : Claim) (e : AnswerError) → IsBestOf m y truths proof (Ok claim) → IsBestOf m y truths proof (Err e) → ⊥
best_or_error m y truths proof claim e a b =
    let p = both_passed (point_group m y truths) (value_group m.goal y a.0) (subst (λ c. first_error (claim_groups m c) ≡ Ok tt) a.1 a.2) in
    never_fails (point_group m y truths) (size_group m.goal y) e p.0 (fits_too (value_fits m.goal y) (is_value m.goal y a.0) p.1) b

pub best_once : (m : ModelTree) (y : PointValue) (truths : List Bool) (proof : List Node) (r q : Result Claim AnswerError) → IsBestOf m y truths proof r → IsBestOf m y truths proof q → r ≡ q
best_once m y truths proof (Ok claim) (Ok other) a b =
    let v = reduced_same (whole_value m.goal y) (m.goal.scale *ℤ y.over) a.0 b.0 a.3 b.3 in
    ap Ok (a.1 ∙ ap (λ value. Best y truths value proof) v ∙ sym b.1)
best_once m y truths proof (Ok claim) (Err e) a b = absurd (best_or_error m y truths proof claim e a b)
best_once m y truths proof (Err e) (Ok claim) a b = absurd (best_or_error m y truths proof claim e b a)
best_once m y truths proof (Err e) (Err f) a b = same_error (first_error (point_group m y truths ∷ size_group m.goal y ∷ [])) e f a b

endless_or_error : (m : ModelTree) (y : PointValue) (truths : List Bool) (ray : List ℤ) (claim : Claim) (e : AnswerError) → IsEndlessOf m y truths ray (Ok claim) → IsEndlessOf m y truths ray (Err e) → ⊥
endless_or_error m y truths ray claim e a b =
    passed_or_failed (first_error (claim_groups m (Endless y truths ray))) e (subst (λ c. first_error (claim_groups m c) ≡ Ok tt) a.0 a.1) b

pub endless_once : (m : ModelTree) (y : PointValue) (truths : List Bool) (ray : List ℤ) (r q : Result Claim AnswerError) → IsEndlessOf m y truths ray r → IsEndlessOf m y truths ray q → r ≡ q
endless_once m y truths ray (Ok claim) (Ok other) a b = ap Ok (a.0 ∙ sym b.0)
endless_once m y truths ray (Ok claim) (Err e) a b = absurd (endless_or_error m y truths ray claim e a b)
endless_once m y truths ray (Err e) (Ok claim) a b = absurd (endless_or_error m y truths ray claim e b a)
endless_once m y truths ray (Err e) (Err f) a b = same_error (first_error (claim_groups m (Endless y truths ray))) e f a b

-- a point in lowest terms, and what is made of it
abbrev pub OfLowest : PointValue → (PointValue → Result Claim AnswerError → Type 0) → Result Claim AnswerError → Type 0
OfLowest x Is r = (y : PointValue) × IsLowestOf x y × Is y r

pub lowest_once : (x : PointValue) (Is : PointValue → Result Claim AnswerError → Type 0) (r q : Result Claim AnswerError)
    → ((y : PointValue) (s t : Result Claim AnswerError) → Is y s → Is y t → s ≡ t) → OfLowest x Is r → OfLowest x Is q → r ≡ q
lowest_once x Is r q once a b = once b.0 r q (subst (λ y. Is y r) (one_lowest x a.0 b.0 a.1 b.1) a.2) b.2

-- the same where memory did not run out
abbrev of_test : Result Claim AnswerError → Result Claim MakeError
of_test (Ok claim) = Ok claim
of_test (Err e) = Err (Test e)

once_of : (x : PointValue) (Is : PointValue → Result Claim AnswerError → Type 0) → ((y : PointValue) (s t : Result Claim AnswerError) → Is y s → Is y t → s ≡ t)
    → (r q : Result Claim MakeError) → r ≢ Err Memory → q ≢ Err Memory → IsMade x Is r → IsMade x Is q → r ≡ q
once_of x Is once (Ok claim) (Ok other) n k a b = ap of_test (lowest_once x Is (Ok claim) (Ok other) once a b)
once_of x Is once (Ok claim) (Err (Test e)) n k a b = ap of_test (lowest_once x Is (Ok claim) (Err e) once a b)
once_of x Is once (Err (Test e)) (Ok claim) n k a b = ap of_test (lowest_once x Is (Err e) (Ok claim) once a b)
once_of x Is once (Err (Test e)) (Err (Test f)) n k a b = ap of_test (lowest_once x Is (Err e) (Err f) once a b)
once_of x Is once (Err Memory) q n k a b = absurd (n refl)
once_of x Is once (Ok claim) (Err Memory) n k a b = absurd (k refl)
once_of x Is once (Err (Test e)) (Err Memory) n k a b = absurd (k refl)

pub made_once : MadeOnce
made_once = record {
  best = λ m x truths proof r q n k a b. once_of x (λ y s. IsBestOf m y truths proof s) (λ y s t. best_once m y truths proof s t) r q n k a b;
  endless = λ m x truths ray r q n k a b. once_of x (λ y s. IsEndlessOf m y truths ray s) (λ y s t. endless_once m y truths ray s t) r q n k a b;
}
