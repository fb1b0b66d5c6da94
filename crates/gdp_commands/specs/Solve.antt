-- What `solve ROUTE STEPS MODEL` answers for a text.
use Rattle.std.specs.Prelude.{ℕ, List, Some, Result, Ok, Err}
use Rattle.model_tree.specs.Values.{ModelTree}
use Rattle.gdp_grammar.specs.Canonical.{boolean_names, var_names}
use Rattle.answers.specs.declared.answer.Answer as answers
use Rattle.answers.specs.declared.answer.Route.{Route}
use Rattle.cert_grammar.specs.Answers.{SpellsAnswer, answer_text_of}
use Rattle.hybrid_rewrite.specs.declared.errors.CompileError.{CompileError}
use Rattle.log_writer.specs.Logs.{log_text_of}
use Rattle.rewrite_solving.specs.declared.reached.Reached.{Reached}
use Rattle.rewrite_solving.specs.declared.reached.Reached.TheVariants.{Claimed, GaveUp}
use Rattle.gdp_solve.specs.Solved.{IsSolution}
use Rattle.gdp_commands.specs.declared.status.Status.TheVariants as status
use Rattle.gdp_commands.specs.Compile.{RefusedSays}
use Rattle.gdp_commands.specs.Messages.{too_long}
use Rattle.gdp_commands.specs.Table.{Answer, FirstIf, For, Is}
use Rattle.gdp_commands.specs.Texts.{IsLong, ModelSays}

-- the text of an answer, which spells it
abbrev pub AnsweredSays : (names booleans : List (List ℕ)) → answers.Answer → Answer
AnsweredSays names booleans a = λ s t. Is status.Done (answer_text_of names booleans a) s t × SpellsAnswer names booleans t a

-- what solving a model answers: the text of what is claimed, or the log of a give-up; or why the model is not compiled
abbrev pub ReachedSays : ModelTree → Route → Result Reached CompileError → Answer
ReachedSays m route (Ok (Claimed claim)) = AnsweredSays (var_names m) (boolean_names m) (record { route = route; claim = claim })
ReachedSays m route (Ok (GaveUp log stop)) = Is status.GaveUp (log_text_of (Some route) log.events stop)
ReachedSays m route (Err error) = RefusedSays m error

-- the text of a solution of the model that the text spells
abbrev pub SolveSays : Route → (steps : ℕ) → (model model_text : List ℕ) → Answer
SolveSays route steps model model_text =
    FirstIf (IsLong model_text) status.Text (too_long model) (
    ModelSays model model_text (λ m.
    For (IsSolution m route steps) (ReachedSays m route)))
