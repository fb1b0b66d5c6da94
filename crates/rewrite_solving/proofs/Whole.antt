-- What is made of a search's answer is a solution.
use Rattle.std.proofs.Common.{inr, ℕ, Ok, Err, Result, refl}
use Rattle.std.specs.Prelude.{IfOk}
use Rattle.lp_rows.specs.declared.columns.WideAt.{WideAt}
use Rattle.model_tree.specs.Values.{ModelTree}
use Rattle.milps.specs.Milps.{MilpValue}
use Rattle.exact_simplex.specs.Log.{LogOf}
use Rattle.search_rules.specs.declared.outcome.Answer.{Answer}
use Rattle.search_rules.specs.Answered.{IsAnswer}
use Rattle.milp_nodes.specs.Nodes.{problem_of}
use Rattle.answers.specs.declared.claim.Claim.{Claim}
use Rattle.milp_nodes.specs.Nodes.{milp_meaning}
use Rattle.rewrite_solving.specs.Reached.{reached_by}
use Rattle.rewrite_solving.specs.Solutions.{IsAccepted, IsMadeOf, IsSolution}

pub solution_of : (m : ModelTree) (milp : MilpValue) (steps : ℕ) (log : LogOf) (a : Answer) (made : Result Claim WideAt) → IsAnswer (problem_of milp) (milp_meaning milp) steps log.events a → IsMadeOf m a made
    → IfOk made (IsAccepted m milp) → IsSolution m milp steps (reached_by made log)
solution_of m milp steps log a (Ok claim) h k i = (i, (log.events, (a, (h, k))))
solution_of m milp steps log a (Err place) h k i = inr (place, (refl, (a, (h, k))))
