-- Terms and tokens of the two sums.
use Rattle.std.specs.Prelude.{ℕ, Bool, Option}
use Rattle.fractions.specs.Fraction.{Fraction}
use Rattle.lp_grammar.specs.declared.stage.Pending.{Pending}
use Rattle.lp_grammar.specs.declared.stage.Stage.{Stage}
use Rattle.lp_grammar.specs.declared.stage.Stage.TheVariants.{GoalLabel, RowLabel}
use Rattle.lp_grammar.specs.Reading.{goal_token, row_token}
use Rattle.lp_grammar.specs.Taking.{Taken, with_goal_term, with_row_term}
use Rattle.lp_grammar.specs.Tokens.{Token}
use Rattle.lp_reader.specs.declared.sum.Sum.{Sum}
use Rattle.lp_reader.specs.declared.sum.Sum.TheVariants.{Goal, Row}

-- a term of the sum
abbrev pub sum_term : Sum → ℕ × Taken → Fraction → Option Taken
sum_term Goal found coefficient = with_goal_term found coefficient
sum_term Row found coefficient = with_row_term found coefficient

-- a token of the sum
abbrev pub sum_token : Sum → Taken → Bool → Pending → Token → Bool → Option Taken
sum_token Goal t is_fresh p token is_labelled = goal_token t is_fresh p token is_labelled
sum_token Row t is_fresh p token is_labelled = row_token t is_fresh p token is_labelled

-- where a text stands behind the sum's label
abbrev pub label_of : Sum → Stage
label_of Goal = GoalLabel
label_of Row = RowLabel
