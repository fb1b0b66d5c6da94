-- What a command answers for texts that were read, where it is not that a text is refused.
use Rattle.std.proofs.Common.{◌≢◌, ℕ, List, inl, inr}
use Rattle.answers.specs.declared.answer.Answer as answers
use Rattle.cert_grammar.specs.Answers.{SpellsAnswer}
use Rattle.gdp_grammar.specs.Canonical.{boolean_names, var_names}
use Rattle.gdp_grammar.specs.Spelling.{Spells}
use Rattle.model_tree.specs.Values.{ModelTree}
use Rattle.gdp_commands.specs.declared.status.Status.{Status}
use Rattle.gdp_commands.specs.declared.status.Status.TheVariants.{Text}
use Rattle.gdp_commands.specs.Check.{AnswerSays}
use Rattle.gdp_commands.specs.Messages.{too_long}
use Rattle.gdp_commands.specs.Table.{Answer, FirstIf}
use Rattle.gdp_commands.specs.Texts.{IsLonger, ModelSays}

-- a text that is not too long
pub within : (limit : ℕ) (name text : List ℕ) (below : Answer) (s : Status) (written : List ℕ) → s ≢ Text → FirstIf (IsLonger limit text) Text (too_long name) below s written → (¬ IsLonger limit text) × below s written
within limit name text below s written other (inl long) = absurd (other long.1.0)
within limit name text below s written other (inr short) = short

-- the model that a text spells
pub of_model : (name text : List ℕ) (below : ModelTree → Answer) (s : Status) (written : List ℕ) → s ≢ Text → ModelSays name text below s written → (m : ModelTree) × Spells text m × below m s written
of_model name text below s written other (inl bad) = absurd (other bad.3.0)
of_model name text below s written other (inr found) = found

-- the answer that a text spells
pub of_answer : (m : ModelTree) (name text : List ℕ) (below : answers.Answer → Answer) (s : Status) (written : List ℕ) → s ≢ Text → AnswerSays m name text below s written
    → (a : answers.Answer) × SpellsAnswer (var_names m) (boolean_names m) text a × below a s written
of_answer m name text below s written other (inl bad) = absurd (other bad.3.0)
of_answer m name text below s written other (inr found) = found
