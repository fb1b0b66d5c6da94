-- What solving promises of a claim that it makes, and that it comes to one thing.
use Rattle.std.specs.Prelude.{◌≡◌, ◌≢◌, ℕ, Result, Ok, Err}
use Rattle.model_tree.specs.Values.{ModelTree}
use Rattle.answers.specs.declared.answer.Route.{Route}
use Rattle.answers.specs.declared.claim.Claim.{Claim}
use Rattle.answer_checker.specs.Valid.{IsValid}
use Rattle.answer_tests.specs.Counted.{IsCounted}
use Rattle.answer_tests.specs.Laws.{IsTrueOf}
use Rattle.hybrid_rewrite.specs.declared.errors.CompileError.{CompileError}
use Rattle.hybrid_rewrite.specs.declared.errors.CompileError.TheVariants.{Memory}
use Rattle.rewrite_solving.specs.declared.reached.Reached.{Reached}
use Rattle.rewrite_solving.specs.declared.reached.Reached.TheVariants.{Claimed}
use Rattle.rewrite_solving.specs.Reached.{AreSame}
use Rattle.gdp_solve.specs.Solved.{IsSolution}

-- what is claimed has a number for each variable and a truth for each Boolean, it is true of the model, and the answer by
-- this route passes each of the checker's tests
pub record IsRightClaim (m : ModelTree) (route : Route) (claim : Claim) : Type 0 where
  pub counted : IsCounted m claim
  pub true_of : IsTrueOf m claim
  pub valid : IsValid m (record { route = route; claim = claim })

-- each claim that solving makes by a route is so
abbrev pub ClaimsAreRight : Type 0
ClaimsAreRight = (m : ModelTree) (route : Route) (steps : ℕ) (claim : Claim) → IsSolution m route steps (Ok (Claimed claim)) → IsRightClaim m route claim

-- two results come to the same, or are one refusal
abbrev pub AreOneResult : Result Reached CompileError → Result Reached CompileError → Type 0
AreOneResult (Ok reached) (Ok other) = AreSame reached other
AreOneResult (Err refusal) (Err why) = refusal ≡ why
AreOneResult (Ok reached) (Err refusal) = ⊥
AreOneResult (Err refusal) (Ok reached) = ⊥

-- where memory does not run out, the model, the route and the steps fix the result
abbrev pub SolvesOnce : Type 0
SolvesOnce =
    (m : ModelTree) (route : Route) (steps : ℕ) (result other : Result Reached CompileError) → result ≢ Err Memory → other ≢ Err Memory →
    IsSolution m route steps result → IsSolution m route steps other → AreOneResult result other
