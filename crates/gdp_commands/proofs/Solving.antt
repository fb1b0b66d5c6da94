-- What `solve` answers by what solving the model comes to.
use Rattle.std.proofs.Common.{◌≡◌, ℕ, Result, Ok, Err, subst}
use Rattle.std.specs.Result.{IfOk}
use Rattle.outcomes.specs.declared.memory.Memory.{Memory}
use Rattle.answers.specs.declared.answer.Route.{Route}
use Rattle.gdp_solve.specs.Solved.{IsSolution}
use Rattle.hybrid_rewrite.specs.declared.errors.CompileError.{CompileError}
use Rattle.model_tree.specs.Values.{ModelTree}
use Rattle.rewrite_solving.specs.declared.reached.Reached.{Reached}
use Rattle.gdp_commands.specs.declared.replies.Reply.{Reply}
use Rattle.gdp_commands.specs.Replies.{text_of}
use Rattle.gdp_commands.specs.Solve.{ReachedSays}
use Rattle.gdp_commands.specs.Table.{For}

-- the answer of a solution
pub if_solved : (m : ModelTree) (route : Route) (steps : ℕ) (result value : Result Reached CompileError) (reply : Result Reply Memory) →
    IsSolution m route steps result → result ≡ value → IfOk reply (λ r. ReachedSays m route value r.status (text_of r)) →
    IfOk reply (λ r. For (IsSolution m route steps) (ReachedSays m route) r.status (text_of r))
if_solved m route steps result value (Err memory) solved is says = tt
if_solved m route steps result value (Ok r) solved is says = (value, subst (IsSolution m route steps) is solved, says)
