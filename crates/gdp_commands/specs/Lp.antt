-- What `lp STEPS FILE` answers for a text.
use Rattle.std.specs.Prelude.{ℕ, pos, ◌<ℤ◌, List, None, Result, Ok, Err, codes}
use Rattle.answers.specs.declared.stop.Stop.{Stop}
use Rattle.answers.specs.declared.stop.Stop.TheVariants.{Wide}
use Rattle.exact_simplex.specs.declared.log.Event.{Event}
use Rattle.log_writer.specs.Logs.{log_text_of}
use Rattle.lp_answers.specs.declared.texts.LpTextError.{LpTextError}
use Rattle.lp_answers.specs.declared.texts.LpTextError.TheVariants.{Value, Memory}
use Rattle.lp_answers.specs.Texts.{IsBestText, IsEndlessText, empty_text_of}
use Rattle.lp_grammar.specs.declared.cause.LpCause.{LpCause}
use Rattle.lp_grammar.specs.declared.cause.LpCause.TheVariants as cause
use Rattle.lp_grammar.specs.Reading.{LpValue}
use Rattle.lp_grammar.specs.Spelling.{LpSpells, IsFirstBadOfLp}
use Rattle.lp_rows.specs.declared.columns.WideAt.TheVariants as wide
use Rattle.milp_nodes.specs.Nodes.{problem_of, milp_meaning}
use Rattle.milps.specs.Milps.{MilpValue}
use Rattle.search_rules.specs.declared.outcome.Answer as search
use Rattle.search_rules.specs.declared.outcome.Answer.TheVariants.{Done, Endless, Stopped}
use Rattle.search_rules.specs.declared.outcome.Outcome.TheVariants.{Best, Empty}
use Rattle.search_rules.specs.Answered.{IsAnswer}
use Rattle.gdp_commands.specs.declared.status.Status.TheVariants as status
use Rattle.gdp_commands.specs.Messages.{refused_for, too_long}
use Rattle.gdp_commands.specs.Table.{Answer, FirstIf, For, Is, Parsed}
use Rattle.gdp_commands.specs.Texts.{IsLong}

-- the name of a cause
abbrev pub lp_cause_name : LpCause → List ℕ
lp_cause_name cause.Form = codes "Form"
lp_cause_name cause.Section = codes "Section"
lp_cause_name cause.Unsupported = codes "Unsupported"
lp_cause_name cause.Number = codes "Number"
lp_cause_name cause.Limit = codes "Limit"

-- the LP text behind a name is refused at this line for this cause
abbrev pub lp_refused_at : List ℕ → ℕ → LpCause → List ℕ
lp_refused_at name number why = refused_for name number (lp_cause_name why)

-- what a search over a program comes to: the events of its log, and its answer
pub record Searched : Type 0 where
  pub events : List Event
  pub answer : search.Answer

-- a search over the program in depth order, with at most so many steps, comes to this
abbrev pub IsSearched : MilpValue → (steps : ℕ) → Searched → Type 0
IsSearched m steps s = IsAnswer (problem_of m) (milp_meaning m) steps s.events s.answer

-- the log of a search, and why it stopped
abbrev pub StoppedSays : List Event → Stop → Answer
StoppedSays events stop = Is status.GaveUp (log_text_of None events stop)

-- the text of a best point; the log where the value of the objective is wide
abbrev pub BestSays : List Event → Result (List ℕ) LpTextError → Answer
BestSays events (Ok text) = Is status.Done text
BestSays events (Err Value) = StoppedSays events (Wide wide.Value)
BestSays events (Err Memory) = λ s t. ⊥

-- what the answer of a search says with the names and the objective of the file
abbrev pub FoundSays : LpValue → List Event → search.Answer → Answer
FoundSays p events (Done (Best best proof)) = For (IsBestText p best.at) (BestSays events)
FoundSays p events (Done (Empty proof)) = Is status.Done empty_text_of
FoundSays p events (Endless at truths ray) = λ s t. (pos 0 <ℤ at.over) × For (IsEndlessText p at ray) (Is status.Done) s t
FoundSays p events (Stopped stop) = StoppedSays events stop

abbrev pub SearchedSays : LpValue → Searched → Answer
SearchedSays p s = FoundSays p s.events s.answer

-- what comes of a search over the program that the text spells
abbrev pub LpSays : (steps : ℕ) → (file text : List ℕ) → Answer
LpSays steps file text =
    FirstIf (IsLong text) status.Text (too_long file) (
    Parsed (IsFirstBadOfLp text) status.Text (lp_refused_at file) (LpSpells text) (λ p.
    For (IsSearched p.milp steps) (SearchedSays p)))
