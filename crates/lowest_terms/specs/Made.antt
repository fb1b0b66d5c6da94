-- Claims that are made of a point: in lowest terms, with their own tests.
use Rattle.std.specs.Prelude.{◌≡◌, ℤ, Bool, List, [], ◌∷◌, Option, Some, None, Result, Ok, Err, if◌then◌else◌}
use Rattle.fractions.specs.Fraction.{Fraction}
use Rattle.lp_rows.specs.declared.columns.WideAt.{WideAt}
use Rattle.lp_rows.specs.declared.columns.WideAt.TheVariants as wide_at
use Rattle.lp_rows.specs.Points.{PointValue}
use Rattle.proof_tree.specs.declared.proof.Node.{Node}
use Rattle.model_tree.specs.Values.{GoalValue, ModelTree}
use Rattle.point_tests.specs.Worth.{IsValueOf, value_fits}
use Rattle.answers.specs.declared.claim.Claim.{Claim}
use Rattle.answers.specs.declared.claim.Claim.TheVariants.{Best, Endless}
use Rattle.answer_tests.specs.declared.errors.AnswerError.{AnswerError}
use Rattle.answer_tests.specs.declared.errors.AnswerError.TheVariants as answer_error
use Rattle.answer_tests.specs.Groups.{first_error, point_group, claim_groups}
use Rattle.lowest_terms.specs.declared.making.MakeError.{MakeError}
use Rattle.lowest_terms.specs.declared.making.MakeError.TheVariants.{Test, Memory}
use Rattle.lowest_terms.specs.Terms.{IsLowestOf}

-- the value of the goal is not wide
abbrev pub size_group : GoalValue → PointValue → Result (Unit {0}) AnswerError
size_group g x = if value_fits g x then Ok tt else Err answer_error.ValueWide

-- a best claim of this point with its value in lowest terms passes its tests; or the first that does not pass is this
abbrev pub IsBestOf : ModelTree → PointValue → List Bool → List Node → Result Claim AnswerError → Type 0
IsBestOf m y truths proof (Ok claim) = (v : Fraction) × (claim ≡ Best y truths v proof) × (first_error (claim_groups m claim) ≡ Ok tt) × IsValueOf m.goal y v
IsBestOf m y truths proof (Err error) = first_error (point_group m y truths ∷ size_group m.goal y ∷ []) ≡ Err error

-- an endless claim of this point and ray, likewise
abbrev pub IsEndlessOf : ModelTree → PointValue → List Bool → List ℤ → Result Claim AnswerError → Type 0
IsEndlessOf m y truths ray (Ok claim) = (claim ≡ Endless y truths ray) × (first_error (claim_groups m claim) ≡ Ok tt)
IsEndlessOf m y truths ray (Err error) = first_error (claim_groups m (Endless y truths ray)) ≡ Err error

-- a claim that is made of the point in lowest terms, or the test that does not pass; nothing of memory that runs out
abbrev pub IsMade : PointValue → (PointValue → Result Claim AnswerError → Type 0) → Result Claim MakeError → Type 0
IsMade x Is (Ok claim) = (y : PointValue) × IsLowestOf x y × Is y (Ok claim)
IsMade x Is (Err (Test error)) = (y : PointValue) × IsLowestOf x y × Is y (Err error)
IsMade x Is (Err Memory) = Unit {0}

-- the place at which an answer's own test was wide
abbrev pub wide_place : AnswerError → Option WideAt
wide_place (answer_error.Point mark) = None
wide_place (answer_error.PointWide mark) = Some (wide_at.Sum mark)
wide_place answer_error.Value = None
wide_place answer_error.ValueWide = Some wide_at.Value
wide_place (answer_error.Ray mark) = None
wide_place (answer_error.RayWide mark) = Some (wide_at.RaySum mark)
