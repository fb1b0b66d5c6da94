-- What `lp` answers by what a search over the program of a file comes to.
use Rattle.std.proofs.Common.{ℕ, Result, Ok, Err}
use Rattle.std.specs.Result.{IfOk}
use Rattle.lp_grammar.specs.Reading.{LpValue}
use Rattle.outcomes.specs.declared.memory.Memory.{Memory}
use Rattle.gdp_commands.specs.declared.replies.Reply.{Reply}
use Rattle.gdp_commands.specs.Lp.{IsSearched, Searched, SearchedSays}
use Rattle.gdp_commands.specs.Replies.{text_of}
use Rattle.gdp_commands.specs.Table.{For}

-- the answer of a search
pub if_searched : (p : LpValue) (steps : ℕ) (s : Searched) (reply : Result Reply Memory) → IsSearched p.milp steps s
    → IfOk reply (λ r. SearchedSays p s r.status (text_of r)) → IfOk reply (λ r. For (IsSearched p.milp steps) (SearchedSays p) r.status (text_of r))
if_searched p steps s (Err memory) searched says = tt
if_searched p steps s (Ok r) searched says = (s, searched, says)
