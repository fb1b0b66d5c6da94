-- What `solve` and `check` promise of what they write.
use Rattle.std.specs.Prelude.{◌≡◌, ℕ, List, Some, Ok}
use Rattle.answer_checker.specs.Valid.{IsValid}
use Rattle.answer_tests.specs.Laws.{IsTrueOf}
use Rattle.answers.specs.declared.answer.Answer as answers
use Rattle.answers.specs.declared.answer.Route.{Route}
use Rattle.answers.specs.declared.claim.Claim.{Claim}
use Rattle.answers.specs.declared.stop.Stop.{Stop}
use Rattle.cert_grammar.specs.Answers.{SpellsAnswer, answer_text_of}
use Rattle.exact_simplex.specs.Log.{LogOf}
use Rattle.gdp_grammar.specs.Canonical.{boolean_names, var_names}
use Rattle.gdp_io.specs.Shelf.{Contents, IsBehind}
use Rattle.gdp_solve.specs.Laws.{IsRightClaim}
use Rattle.gdp_solve.specs.Solved.{IsSolution}
use Rattle.log_writer.specs.Logs.{log_text_of}
use Rattle.model_tree.specs.Values.{ModelTree}
use Rattle.rewrite_solving.specs.declared.reached.Reached.TheVariants.{GaveUp}
use Rattle.gdp_commands.specs.declared.status.Status.{Status}
use Rattle.gdp_commands.specs.declared.status.Status.TheVariants as status
use Rattle.gdp_commands.specs.Answers.{Says}
use Rattle.gdp_commands.specs.Check.{CheckSays}
use Rattle.gdp_commands.specs.CompileLaws.{SpellsBehind}
use Rattle.gdp_commands.specs.Solve.{SolveSays}
use Rattle.gdp_commands.specs.Table.{IsOne}
use Rattle.gdp_commands.specs.Texts.{IsLongAnswer}
use Rattle.gdp_commands.specs.Words.Form.{Solve, Check}

-- the text is that of a claim by this route, which is true of the model and which the checker accepts
pub record IsAnsweredAs (route : Route) (m : ModelTree) (written : List ℕ) : Type 0 where
  pub claim : Claim
  pub text : written ≡ answer_text_of (var_names m) (boolean_names m) (record { route = route; claim = claim })
  pub spells : SpellsAnswer (var_names m) (boolean_names m) written (record { route = route; claim = claim })
  pub right : IsRightClaim m route claim

-- the text is that of a log, and of why the search stopped after it
pub record IsGivenUpAs (route : Route) (steps : ℕ) (m : ModelTree) (written : List ℕ) : Type 0 where
  pub log : LogOf
  pub stop : Stop
  pub solution : IsSolution m route steps (Ok (GaveUp log stop))
  pub text : written ≡ log_text_of (Some route) log.events stop

-- What `solve` answers with status 0 is the text of a claim that is true of the model that the text behind the name spells,
-- and the checker accepts it.
abbrev pub SolvesTruly : Type 0
SolvesTruly =
    (route : Route) (steps : ℕ) (model : List ℕ) (contents : Contents) (written : List ℕ) →
    Says (Solve route steps model) contents status.Done written → SpellsBehind contents model (λ m. IsAnsweredAs route m written)

-- What it answers with status 3 is the log of a search over that model in depth order, which ends where the steps do, with
-- one due, or before the first number past 128 bits.
abbrev pub GivesUpExactly : Type 0
GivesUpExactly =
    (route : Route) (steps : ℕ) (model : List ℕ) (contents : Contents) (written : List ℕ) →
    Says (Solve route steps model) contents status.GaveUp written → SpellsBehind contents model (λ m. IsGivenUpAs route steps m written)

-- Where the contents behind the name are revealed, they fix what `solve` answers: its status and its text.
abbrev pub SolvesOnce : Type 0
SolvesOnce =
    (route : Route) (steps : ℕ) (model : List ℕ) (contents : Contents) (all : List ℕ) →
    contents model ≡ Some all → IsOne (Says (Solve route steps model) contents)

-- some text behind the name spells an answer for the model that is valid and true
pub record IsTrueBehind (contents : Contents) (name : List ℕ) (m : ModelTree) : Type 0 where
  pub text : List ℕ
  pub behind : IsBehind contents name text
  pub answer : answers.Answer
  pub spelled : SpellsAnswer (var_names m) (boolean_names m) text answer
  pub valid : IsValid m answer
  pub true_of : IsTrueOf m answer.claim

-- Whatever `check` accepts is true, whoever wrote the answer.
abbrev pub ChecksTruly : Type 0
ChecksTruly =
    (model answer : List ℕ) (contents : Contents) (written : List ℕ) →
    Says (Check model answer) contents status.Done written → SpellsBehind contents model (λ m. IsTrueBehind contents answer m)

-- What `solve` writes with status 0, `check` of that model accepts, where its text is within the limit on the text of an answer.
abbrev pub SolvedIsAccepted : Type 0
SolvedIsAccepted =
    (route : Route) (steps : ℕ) (model answer model_text written text : List ℕ) (s : Status) → ¬ IsLongAnswer written →
    SolveSays route steps model model_text status.Done written → CheckSays model answer model_text written s text → s ≡ status.Done
