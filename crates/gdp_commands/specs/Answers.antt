-- What a command answers.
use Rattle.std.specs.Prelude.{◌≡◌, ◌⊎◌, ℕ, List, Some}
use Rattle.gdp_io.specs.Causes.{Rose}
use Rattle.gdp_io.specs.Shelf.{Contents, IsBehind}
use Rattle.gdp_commands.specs.declared.status.Status.{Status}
use Rattle.gdp_commands.specs.declared.status.Status.TheVariants.{Read}
use Rattle.gdp_commands.specs.Bench.{BenchSays}
use Rattle.gdp_commands.specs.Check.{CheckSays}
use Rattle.gdp_commands.specs.Compile.{CompileSays}
use Rattle.gdp_commands.specs.Format.{FormatSays}
use Rattle.gdp_commands.specs.Lp.{LpSays}
use Rattle.gdp_commands.specs.Make.{MakeSays}
use Rattle.gdp_commands.specs.Messages.{read_fault}
use Rattle.gdp_commands.specs.Solve.{SolveSays}
use Rattle.gdp_commands.specs.Statuses.{IsWorked}
use Rattle.gdp_commands.specs.Table.{Answer, For}
use Rattle.gdp_commands.specs.Test.{TestSays}
use Rattle.gdp_commands.specs.Texts.{IsLong}
use Rattle.gdp_commands.specs.Words.{Form, IsRead}
use Rattle.gdp_commands.specs.Words.Form.{Test, Format, Compile, Solve, Check, Make, Bench, Lp}

-- The command answers by texts that stand behind its names: those that the shelf reveals, and any others where it hides them.
abbrev pub Says : Form → Contents → Answer
Says (Test model point) contents =
    For (IsBehind contents model) (λ model_text.
    For (IsBehind contents point) (λ point_text.
    TestSays model point model_text point_text))
Says (Format model) contents =
    For (IsBehind contents model) (λ model_text.
    FormatSays model model_text)
Says (Compile choice model) contents =
    For (IsBehind contents model) (λ model_text.
    CompileSays choice model model_text)
Says (Solve route steps model) contents =
    For (IsBehind contents model) (λ model_text.
    SolveSays route steps model model_text)
Says (Check model answer) contents =
    For (IsBehind contents model) (λ model_text.
    For (IsBehind contents answer) (λ answer_text.
    CheckSays model answer model_text answer_text))
Says (Make seed size) contents = MakeSays seed size
Says (Bench route steps seed size) contents = BenchSays route steps seed size
Says (Lp steps file) contents =
    For (IsBehind contents file) (λ text.
    LpSays steps file text)

-- no text that is read before this name is too long, where the contents are revealed
abbrev pub FitsBefore : Form → Contents → List ℕ → Type 0
FitsBefore (Test model point) contents name = (name ≡ model) ⊎ ((all : List ℕ) → contents model ≡ Some all → ¬ IsLong all)
FitsBefore (Format model) contents name = Unit {0}
FitsBefore (Compile choice model) contents name = Unit {0}
FitsBefore (Solve route steps model) contents name = Unit {0}
FitsBefore (Check model answer) contents name = (name ≡ model) ⊎ ((all : List ℕ) → contents model ≡ Some all → ¬ IsLong all)
FitsBefore (Make seed size) contents name = Unit {0}
FitsBefore (Bench route steps seed size) contents name = Unit {0}
FitsBefore (Lp steps file) contents name = Unit {0}

-- the count of a name that the command reads rose, what is read before it is not too long, and the text names it
abbrev pub SaysFault : Form → Contents → (List ℕ → ℕ) → (List ℕ → ℕ) → List ℕ → Type 0
SaysFault form contents before now text = (name : List ℕ) × IsRead form name × FitsBefore form contents name × Rose (before name) (now name) × (text ≡ read_fault name)

-- no count of a name that the command reads rose
abbrev pub NoFault : Form → (List ℕ → ℕ) → (List ℕ → ℕ) → Type 0
NoFault form before now = (name : List ℕ) → IsRead form name → ¬ Rose (before name) (now name)

-- what a command answers, by its status
pub record IsReplyTo (form : Form) (contents : Contents) (before now : List ℕ → ℕ) (status : Status) (text : List ℕ) : Type 0 where
  pub one : IsWorked status ⊎ (status ≡ Read)
  pub says : IsWorked status → Says form contents status text
  pub fault : status ≡ Read → SaysFault form contents before now text
