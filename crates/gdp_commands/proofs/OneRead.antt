-- What a command answers, by the texts behind its names.
use Rattle.std.proofs.Common.{ℕ, List, Result, Ok, Err, ◌∙◌, subst, inl}
use Rattle.std.specs.Result.{IfOk}
use Rattle.outcomes.specs.declared.memory.Memory.{Memory}
use Rattle.gdp_io.specs.Shelf.{Contents, SameContents, IsBehind}
use Rattle.answers.specs.declared.answer.Route.{Route}
use Rattle.hull_rewrite.specs.declared.choices.Choice.{Choice}
use Rattle.gdp_commands.specs.declared.replies.Reply.{Reply}
use Rattle.gdp_commands.specs.declared.status.Status.{Status}
use Rattle.gdp_commands.specs.Answers.{IsReplyTo, Says}
use Rattle.gdp_commands.specs.Check.{CheckSays}
use Rattle.gdp_commands.specs.Compile.{CompileSays}
use Rattle.gdp_commands.specs.Format.{FormatSays}
use Rattle.gdp_commands.specs.Lp.{LpSays}
use Rattle.gdp_commands.specs.Replies.{text_of}
use Rattle.gdp_commands.specs.Solve.{SolveSays}
use Rattle.gdp_commands.specs.Statuses.{IsWorked}
use Rattle.gdp_commands.specs.Table.{Answer, For}
use Rattle.gdp_commands.specs.Test.{TestSays}
use Rattle.gdp_commands.specs.Words.{Form}
use Rattle.gdp_commands.specs.Words.Form.{Test, Format, Compile, Solve, Check, Lp}

-- the table of the text that was read is that of a text behind the name
one_read : (form : Form) (contents : Contents) (before now : List ℕ → ℕ) (model model_text : List ℕ) (below : List ℕ → Answer) (result : Result Reply Memory) →
    ((status : Status) (text : List ℕ) → For (IsBehind contents model) below status text → Says form contents status text) →
    IsBehind contents model model_text → IfOk result (λ reply. IsWorked reply.status) →
    IfOk result (λ reply. below model_text reply.status (text_of reply)) →
    IfOk result (λ reply. IsReplyTo form contents before now reply.status (text_of reply))
one_read form contents before now model model_text below (Err memory) table is_model worked says = tt
one_read form contents before now model model_text below (Ok reply) table is_model worked says = record {
  one = inl worked;
  says = λ _. table reply.status (text_of reply) (model_text, is_model, says);
  fault = λ is. absurd (subst IsWorked is worked);
}

pub format_read : (contents : Contents) (before now : List ℕ → ℕ) (model model_text : List ℕ) (result : Result Reply Memory) →
    IsBehind contents model model_text → IfOk result (λ reply. IsWorked reply.status) →
    IfOk result (λ reply. FormatSays model model_text reply.status (text_of reply)) →
    IfOk result (λ reply. IsReplyTo (Format model) contents before now reply.status (text_of reply))
format_read contents before now model model_text result =
    one_read (Format model) contents before now model model_text (FormatSays model) result (λ status text says. says)

pub compile_read : (choice : Choice) (contents : Contents) (before now : List ℕ → ℕ) (model model_text : List ℕ) (result : Result Reply Memory) →
    IsBehind contents model model_text → IfOk result (λ reply. IsWorked reply.status) →
    IfOk result (λ reply. CompileSays choice model model_text reply.status (text_of reply)) →
    IfOk result (λ reply. IsReplyTo (Compile choice model) contents before now reply.status (text_of reply))
compile_read choice contents before now model model_text result =
    one_read (Compile choice model) contents before now model model_text (CompileSays choice model) result (λ status text says. says)

pub solve_read : (route : Route) (steps : ℕ) (contents : Contents) (before now : List ℕ → ℕ) (model model_text : List ℕ) (result : Result Reply Memory) →
    IsBehind contents model model_text → IfOk result (λ reply. IsWorked reply.status) →
    IfOk result (λ reply. SolveSays route steps model model_text reply.status (text_of reply)) →
    IfOk result (λ reply. IsReplyTo (Solve route steps model) contents before now reply.status (text_of reply))
solve_read route steps contents before now model model_text result =
    one_read (Solve route steps model) contents before now model model_text (SolveSays route steps model) result (λ status text says. says)

pub lp_read : (steps : ℕ) (contents : Contents) (before now : List ℕ → ℕ) (file text : List ℕ) (result : Result Reply Memory) →
    IsBehind contents file text → IfOk result (λ reply. IsWorked reply.status) →
    IfOk result (λ reply. LpSays steps file text reply.status (text_of reply)) →
    IfOk result (λ reply. IsReplyTo (Lp steps file) contents before now reply.status (text_of reply))
lp_read steps contents before now file text result =
    one_read (Lp steps file) contents before now file text (LpSays steps file) result (λ status text says. says)

-- the table of two texts that were read is that of texts behind the names
both_read : (form : Form) (contents between : Contents) (before now : List ℕ → ℕ) (model other model_text other_text : List ℕ) (below : List ℕ → List ℕ → Answer) (result : Result Reply Memory) →
    ((status : Status) (text : List ℕ) → For (IsBehind contents model) (λ one. For (IsBehind contents other) (below one)) status text → Says form contents status text) →
    SameContents contents between → IsBehind contents model model_text → IsBehind between other other_text → IfOk result (λ reply. IsWorked reply.status) →
    IfOk result (λ reply. below model_text other_text reply.status (text_of reply)) →
    IfOk result (λ reply. IsReplyTo form contents before now reply.status (text_of reply))
both_read form contents between before now model other model_text other_text below (Err memory) table same is_model is_other worked says = tt
both_read form contents between before now model other model_text other_text below (Ok reply) table same is_model is_other worked says = record {
  one = inl worked;
  says = λ _. table reply.status (text_of reply) (model_text, is_model, (other_text, (λ all revealed. is_other all (same other ∙ revealed)), says));
  fault = λ is. absurd (subst IsWorked is worked);
}

pub test_read : (contents between : Contents) (before now : List ℕ → ℕ) (model point model_text point_text : List ℕ) (result : Result Reply Memory) →
    SameContents contents between → IsBehind contents model model_text → IsBehind between point point_text → IfOk result (λ reply. IsWorked reply.status) →
    IfOk result (λ reply. TestSays model point model_text point_text reply.status (text_of reply)) →
    IfOk result (λ reply. IsReplyTo (Test model point) contents before now reply.status (text_of reply))
test_read contents between before now model point model_text point_text result =
    both_read (Test model point) contents between before now model point model_text point_text (TestSays model point) result (λ status text says. says)

pub check_read : (contents between : Contents) (before now : List ℕ → ℕ) (model answer model_text answer_text : List ℕ) (result : Result Reply Memory) →
    SameContents contents between → IsBehind contents model model_text → IsBehind between answer answer_text → IfOk result (λ reply. IsWorked reply.status) →
    IfOk result (λ reply. CheckSays model answer model_text answer_text reply.status (text_of reply)) →
    IfOk result (λ reply. IsReplyTo (Check model answer) contents before now reply.status (text_of reply))
check_read contents between before now model answer model_text answer_text result =
    both_read (Check model answer) contents between before now model answer model_text answer_text (CheckSays model answer) result (λ status text says. says)
