-- What a command answers that reads no text.
use Rattle.std.proofs.Common.{ℕ, List, [], append-nil, Result, Ok, Err, lit≤, sym, subst, inl}
use Rattle.std.specs.Result.{IfOk}
use Rattle.answers.specs.declared.answer.Route.{Route}
use Rattle.outcomes.specs.declared.memory.Memory.{Memory}
use Rattle.gdp_io.specs.Shelf.{Contents, Openings, OpensFirst}
use Rattle.gdp_commands.specs.Answers.{IsReplyTo, Says}
use Rattle.gdp_commands.specs.Bench.{BenchSays}
use Rattle.gdp_commands.specs.Make.{MakeSays}
use Rattle.gdp_commands.specs.Replies.{text_of}
use Rattle.gdp_commands.specs.Statuses.{IsWorked}
use Rattle.gdp_commands.specs.Table.{Answer}
use Rattle.gdp_commands.specs.Words.{Form}
use Rattle.gdp_commands.specs.Words.Form.{Make, Bench}
use Rattle.gdp_commands.specs.declared.replies.Reply.{Reply}
use Rattle.gdp_commands.specs.declared.status.Status.{Status}

-- a call that opens nothing opened the first none of no names
pub none_opened : (openings : Openings) → OpensFirst openings openings []
none_opened openings names revealed = (0, lit≤ tt, subst openings (sym (append-nil names)) revealed)

-- the table of such a command is what it says
unshelved : (form : Form) (contents : Contents) (before now : List ℕ → ℕ) (below : Answer) (result : Result Reply Memory) → ((s : Status) (t : List ℕ) → below s t → Says form contents s t)
    → IfOk result (λ reply. IsWorked reply.status) → IfOk result (λ reply. below reply.status (text_of reply)) → IfOk result (λ reply. IsReplyTo form contents before now reply.status (text_of reply))
unshelved form contents before now below (Err memory) table worked says = tt
unshelved form contents before now below (Ok reply) table worked says = record {
  one = inl worked;
  says = λ _. table reply.status (text_of reply) says;
  fault = λ is. absurd (subst IsWorked is worked);
}

pub made : (seed size : ℕ) (contents : Contents) (before now : List ℕ → ℕ) (result : Result Reply Memory) → IfOk result (λ reply. IsWorked reply.status)
    → IfOk result (λ reply. MakeSays seed size reply.status (text_of reply)) → IfOk result (λ reply. IsReplyTo (Make seed size) contents before now reply.status (text_of reply))
made seed size contents before now result = unshelved (Make seed size) contents before now (MakeSays seed size) result (λ s t says. says)

pub benched : (route : Route) (steps seed size : ℕ) (contents : Contents) (before now : List ℕ → ℕ) (result : Result Reply Memory) → IfOk result (λ reply. IsWorked reply.status)
    → IfOk result (λ reply. BenchSays route steps seed size reply.status (text_of reply)) → IfOk result (λ reply. IsReplyTo (Bench route steps seed size) contents before now reply.status (text_of reply))
benched route steps seed size contents before now result = unshelved (Bench route steps seed size) contents before now (BenchSays route steps seed size) result (λ s t says. says)
