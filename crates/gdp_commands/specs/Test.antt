-- What `test MODEL POINT` answers for two texts.
use Rattle.std.specs.Prelude.{ℕ, Bool, List, Result, Ok, Err}
use Rattle.lp_rows.specs.Points.{PointValue}
use Rattle.point_tests.specs.declared.verdicts.Verdict.{Verdict}
use Rattle.point_tests.specs.declared.verdicts.Verdict.TheVariants.{Holds, FailsAt}
use Rattle.point_tests.specs.declared.verdicts.SumWide.{SumWide}
use Rattle.point_tests.specs.Satisfied.{point_of}
use Rattle.point_tests.specs.Tests.{tests_of, verdict_of}
use Rattle.model_tree.specs.Values.{ModelTree}
use Rattle.gdp_commands.specs.declared.status.Status.TheVariants.{Done, No, Text, GaveUp}
use Rattle.gdp_commands.specs.Messages.{too_long, holds, fails_at, wide_at}
use Rattle.gdp_commands.specs.Table.{Answer, FirstIf, Is}
use Rattle.gdp_commands.specs.Texts.{IsLong, ModelSays, PointSays}

-- what a verdict answers
abbrev pub VerdictSays : Result Verdict SumWide → Answer
VerdictSays (Ok Holds) = Is Done holds
VerdictSays (Ok (FailsAt mark)) = Is No (fails_at mark)
VerdictSays (Err wide) = Is GaveUp (wide_at wide.mark)

-- what the verdict on a point of the model answers
abbrev pub TestedSays : ModelTree → PointValue × List Bool → Answer
TestedSays m p = VerdictSays (verdict_of (tests_of m (point_of p.0 p.1)))

-- Reading comes before the texts: a text that is too long is reported first. Of the texts the model's comes first.
abbrev pub TestSays : (model point model_text point_text : List ℕ) → Answer
TestSays model point model_text point_text =
    FirstIf (IsLong model_text) Text (too_long model) (
    FirstIf (IsLong point_text) Text (too_long point) (
    ModelSays model model_text (λ m.
    PointSays m point point_text (TestedSays m))))
