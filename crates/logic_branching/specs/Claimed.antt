-- What the answer of a search over a model claims of it.
use Rattle.std.specs.Prelude.{◌≡◌, ℕ, List}
use Rattle.fractions.specs.Fraction.{Fraction}
use Rattle.exact_simplex.specs.declared.log.Event.{Event}
use Rattle.search_rules.specs.declared.outcome.Outcome.TheVariants.{Best, Empty}
use Rattle.search_rules.specs.declared.outcome.Answer.{Answer}
use Rattle.search_rules.specs.declared.outcome.Answer.TheVariants.{Done, Endless, Stopped}
use Rattle.search_rules.specs.Answered.{IsAnswer}
use Rattle.int_linear.specs.Sums.{at as number_at}
use Rattle.point_tests.specs.Satisfied.{point_of}
use Rattle.model_tree.specs.Sound.{IsSound}
use Rattle.model_tree.specs.Values.{ModelTree}
use Rattle.point_tests.specs.Worth.{IsValueOf}
use Rattle.model_claims.specs.Claims.{Claim, best, empty, endless, IsTrueOf, IsInLowest, AreOne}
use Rattle.model_nodes.specs.Nodes.{model_problem, model_meaning}

-- the claim that an answer makes: at a best point its value in lowest terms
abbrev pub IsClaimOf : ModelTree → Answer → Claim → Type 0
IsClaimOf m (Done (Best found proof)) claim = (v : Fraction) × (IsValueOf m.goal found.at v × (claim ≡ best (point_of found.at found.truths) v))
IsClaimOf m (Done (Empty proof)) claim = claim ≡ empty
IsClaimOf m (Endless at truths ray) claim = claim ≡ endless (point_of at truths) (number_at ray)
IsClaimOf m (Stopped stop) claim = ⊥

-- what an answer claims is true of the model
abbrev pub IsTrueAnswer : ModelTree → Answer → Type 0
IsTrueAnswer m answer = (claim : Claim) → IsClaimOf m answer claim → IsTrueOf m claim

-- an answer by branching on truth values claims the truth
abbrev pub AnswersAreTrue : Type 0
AnswersAreTrue = (m : ModelTree) (steps : ℕ) (log : List Event) (answer : Answer) → IsSound m → IsAnswer (model_problem m) (model_meaning m) steps log answer → IsTrueAnswer m answer

-- an answer by branching on truth values and any true claim of the model, by whatever route it was had, are one claim
abbrev pub RoutesAgree : Type 0
RoutesAgree = (m : ModelTree) (steps : ℕ) (log : List Event) (answer : Answer) (claim other : Claim) → IsSound m → IsAnswer (model_problem m) (model_meaning m) steps log answer → IsClaimOf m answer claim → IsInLowest other → IsTrueOf m other → AreOne claim other
