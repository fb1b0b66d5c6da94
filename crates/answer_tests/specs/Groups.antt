-- The tests of an answer as a list of groups: the first that fails or is wide decides.
use Rattle.std.specs.Prelude.{ℤ, ◌*ℤ◌, Bool, List, [], ◌∷◌, Result, Ok, Err, if◌then◌else◌}
use Rattle.std.specs.Ordering.{int_eq}
use Rattle.fractions.specs.Fraction.{Fraction}
use Rattle.lp_rows.specs.Points.{PointValue}
use Rattle.point_tests.specs.declared.verdicts.Verdict.{Verdict}
use Rattle.point_tests.specs.declared.verdicts.Verdict.TheVariants.{Holds, FailsAt}
use Rattle.point_tests.specs.declared.verdicts.SumWide.{SumWide}
use Rattle.point_tests.specs.Satisfied.{point_of}
use Rattle.point_tests.specs.Tests.{verdict_of, tests_of}
use Rattle.model_tree.specs.Values.{GoalValue, ModelTree}
use Rattle.point_tests.specs.Worth.{whole_value, value_fits}
use Rattle.answers.specs.declared.claim.Claim.{Claim}
use Rattle.answers.specs.declared.claim.Claim.TheVariants.{Best, Empty, Endless}
use Rattle.answer_tests.specs.declared.errors.AnswerError.{AnswerError}
use Rattle.answer_tests.specs.declared.errors.AnswerError.TheVariants.{Point, PointWide, Value, ValueWide, Ray, RayWide}
use Rattle.answer_tests.specs.Rays.{verdict_along}

-- the first group that does not pass decides
abbrev pub first_error : {E : Type 0} → List (Result (Unit {0}) E) → Result (Unit {0}) E
first_error [] = Ok tt
first_error (Ok u ∷ groups) = first_error groups
first_error (Err error ∷ groups) = Err error

-- the point satisfies the model
abbrev pub point_error : Result Verdict SumWide → Result (Unit {0}) AnswerError
point_error (Ok Holds) = Ok tt
point_error (Ok (FailsAt mark)) = Err (Point mark)
point_error (Err wide) = Err (PointWide wide.mark)

abbrev pub point_group : ModelTree → PointValue → List Bool → Result (Unit {0}) AnswerError
point_group m at truths = point_error (verdict_of (tests_of m (point_of at truths)))

-- the value is that of the goal at the point
abbrev pub is_value : GoalValue → PointValue → Fraction → Bool
is_value g at value = int_eq (value.num *ℤ (g.scale *ℤ at.over)) (whole_value g at *ℤ value.den)

abbrev pub value_group : GoalValue → PointValue → Fraction → Result (Unit {0}) AnswerError
value_group g at value = if value_fits g at then (if is_value g at value then Ok tt else Err Value) else Err ValueWide

-- the ray leads from the point to better points without end
abbrev pub ray_error : Result Verdict SumWide → Result (Unit {0}) AnswerError
ray_error (Ok Holds) = Ok tt
ray_error (Ok (FailsAt mark)) = Err (Ray mark)
ray_error (Err wide) = Err (RayWide wide.mark)

abbrev pub ray_group : ModelTree → List Bool → List ℤ → Result (Unit {0}) AnswerError
ray_group m truths ray = ray_error (verdict_along m truths ray)

-- the groups of a claim, in their order
abbrev pub claim_groups : ModelTree → Claim → List (Result (Unit {0}) AnswerError)
claim_groups m (Best at truths value proof) = point_group m at truths ∷ value_group m.goal at value ∷ []
claim_groups m (Empty proof) = []
claim_groups m (Endless at truths ray) = point_group m at truths ∷ ray_group m truths ray ∷ []
