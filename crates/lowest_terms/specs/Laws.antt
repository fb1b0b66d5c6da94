-- What bringing to lowest terms promises.
use Rattle.std.specs.Prelude.{◌≡◌, ◌≢◌, Bool, List, [], ◌∷◌, None, Result, Err, ℕ, ℤ, Ok}
use Rattle.fractions.specs.Fraction.{Fraction}
use Rattle.int_linear.specs.Sums.{at}
use Rattle.lp_rows.specs.Points.{PointValue}
use Rattle.point_tests.specs.Satisfied.{PointOf, point_of}
use Rattle.point_tests.specs.declared.verdicts.Verdict.TheVariants.{FailsAt}
use Rattle.point_tests.specs.Tests.{verdict_of}
use Rattle.model_tree.specs.Sound.{IsSound}
use Rattle.model_tree.specs.Values.{ModelTree}
use Rattle.model_claims.specs.Claims.{IsPoint, HasValue, IsEndless}
use Rattle.answer_tests.specs.Rays.{ray_tests}
use Rattle.answer_tests.specs.declared.errors.AnswerError.{AnswerError}
use Rattle.answer_tests.specs.Groups.{first_error, point_group, ray_group}
use Rattle.answers.specs.declared.claim.Claim.{Claim}
use Rattle.proof_tree.specs.declared.proof.Node.{Node}
use Rattle.lowest_terms.specs.declared.making.MakeError.{MakeError}
use Rattle.lowest_terms.specs.declared.making.MakeError.TheVariants.{Memory}
use Rattle.lowest_terms.specs.Made.{IsBestOf, IsEndlessOf, IsMade, size_group, wide_place}
use Rattle.lowest_terms.specs.Terms.{IsLowestOf}

-- a point has one form in lowest terms
abbrev pub OneLowest : Type 0
OneLowest = (x y z : PointValue) → IsLowestOf x y → IsLowestOf x z → y ≡ z

-- what is made of a point is one claim, or one test that does not pass, where memory does not run out
pub record MadeOnce : Type 0 where
  pub best : (m : ModelTree) (x : PointValue) (truths : List Bool) (proof : List Node) (r q : Result Claim MakeError) → r ≢ Err Memory → q ≢ Err Memory
      → IsMade x (λ y s. IsBestOf m y truths proof s) r → IsMade x (λ y s. IsBestOf m y truths proof s) q → r ≡ q
  pub endless : (m : ModelTree) (x : PointValue) (truths : List Bool) (ray : List ℤ) (r q : Result Claim MakeError) → r ≢ Err Memory → q ≢ Err Memory
      → IsMade x (λ y s. IsEndlessOf m y truths ray s) r → IsMade x (λ y s. IsEndlessOf m y truths ray s) q → r ≡ q

-- it is a point of the same models, with the same value
pub record LowestKeeps : Type 0 where
  pub point : (m : ModelTree) (x y : PointValue) (truths : List Bool) → IsSound m → IsLowestOf x y → IsPoint m (point_of x truths) → IsPoint m (point_of y truths)
  pub value : (m : ModelTree) (x y : PointValue) (truths : List Bool) (v : Fraction) → IsLowestOf x y → HasValue m.goal (point_of x truths) v → HasValue m.goal (point_of y truths) v

-- At a point of the model the tests of a best claim do not fail: the first that does not pass is wide.
abbrev pub OnlyWide : Type 0
OnlyWide = (m : ModelTree) (x y : PointValue) (truths : List Bool) (error : AnswerError) → IsSound m → IsLowestOf x y → IsPoint m (point_of x truths)
    → first_error (point_group m y truths ∷ size_group m.goal y ∷ []) ≡ Err error → wide_place error ≢ None

-- Along a ray that makes the goal endless no test of the ray fails: the first that does not pass is wide.
abbrev pub RayDoesNotFail : Type 0
RayDoesNotFail = (m : ModelTree) (p : PointOf) (ray : ℕ → ℤ) → IsSound m → IsEndless m p ray → (mark : ℕ) → verdict_of (ray_tests m p.truths ray) ≡ Ok (FailsAt mark) → ⊥

-- Nor do the tests of the endless claim that is made.
abbrev pub OnlyWideEndless : Type 0
OnlyWideEndless = (m : ModelTree) (x y : PointValue) (truths : List Bool) (ray : List ℤ) (error : AnswerError) → IsSound m → IsLowestOf x y → IsPoint m (point_of x truths)
    → IsEndless m (point_of x truths) (at ray) → first_error (point_group m y truths ∷ ray_group m truths ray ∷ []) ≡ Err error → wide_place error ≢ None
