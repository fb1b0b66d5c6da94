-- What solving a model by its own truth values and integer variables answers.
use Rattle.std.specs.Prelude.{◌≡◌, ◌⊎◌, ℕ, ℤ, Bool, List, Some, Result, Ok, Err}
use Rattle.lp_rows.specs.declared.columns.WideAt.{WideAt}
use Rattle.model_tree.specs.Values.{ModelTree}
use Rattle.exact_simplex.specs.declared.log.Event.{Event}
use Rattle.answers.specs.declared.claim.Claim.{Claim}
use Rattle.answers.specs.declared.claim.Claim.TheVariants.{Empty}
use Rattle.lp_rows.specs.Points.{PointValue}
use Rattle.proof_tree.specs.declared.proof.Node.{Node}
use Rattle.answers.specs.declared.stop.Stop.TheVariants.{Wide}
use Rattle.search_rules.specs.declared.outcome.Answer.{Answer}
use Rattle.search_rules.specs.declared.outcome.Answer.TheVariants as answer
use Rattle.search_rules.specs.declared.outcome.Outcome.TheVariants as outcome
use Rattle.search_rules.specs.declared.waiting.Best.{Best}
use Rattle.search_rules.specs.Answered.{IsAnswer}
use Rattle.search_rules.specs.Solved.{IsSolved}
use Rattle.model_nodes.specs.Nodes.{model_problem, model_meaning}
use Rattle.answer_tests.specs.declared.errors.AnswerError.{AnswerError}
use Rattle.answer_tests.specs.Groups.{first_error}
use Rattle.answer_tests.specs.Laws.{IsTrueOf}
use Rattle.certificate_checker.specs.Answers.{answer_groups}
use Rattle.logic_checker.specs.Models.{nodes_of, least_at}
use Rattle.lowest_terms.specs.declared.making.MakeError.TheVariants.{Test}
use Rattle.lowest_terms.specs.Made.{IsMade, IsBestOf, IsEndlessOf, wide_place}
use Rattle.rewrite_solving.specs.Cuts.{IsRayCutOf}
use Rattle.rewrite_solving.specs.declared.reached.Reached.{Reached}
use Rattle.rewrite_solving.specs.declared.reached.Reached.TheVariants.{Claimed, GaveUp}

-- the log is the one in depth order, of at most so many steps, and a search over the model answers this by it
abbrev pub IsFoundBy : ModelTree → ℕ → List Event → Answer → Type 0
IsFoundBy m steps log a = IsAnswer (model_problem m) (model_meaning m) steps log a

-- some search over the model answers this
abbrev pub IsFound : ModelTree → Answer → Type 0
IsFound m a = (steps : ℕ) × ((log : List Event) × IsFoundBy m steps log a)

-- a claim of this point with this proof, in lowest terms; or the place at which one of the claim's own tests is wide
abbrev pub IsBestMade : ModelTree → Best → List Node → Result Claim WideAt → Type 0
IsBestMade m b proof (Ok claim) = IsMade b.at (λ y r. IsBestOf m y b.truths proof r) (Ok claim)
IsBestMade m b proof (Err place) = (error : AnswerError) × (IsMade b.at (λ y r. IsBestOf m y b.truths proof r) (Err (Test error)) × (wide_place error ≡ Some place))

-- a claim of this point and of the ray at the model's variables, likewise
abbrev pub IsEndlessMade : ModelTree → PointValue → List Bool → List ℤ → Result Claim WideAt → Type 0
IsEndlessMade m at truths ray (Ok claim) = (cut : List ℤ) × (IsRayCutOf m ray cut × IsMade at (λ y r. IsEndlessOf m y truths cut r) (Ok claim))
IsEndlessMade m at truths ray (Err place) = (cut : List ℤ) × (error : AnswerError)
    × (IsRayCutOf m ray cut × IsMade at (λ y r. IsEndlessOf m y truths cut r) (Err (Test error)) × (wide_place error ≡ Some place))

-- what is made of the answer of a search over the model
abbrev pub IsMadeOf : ModelTree → Answer → Result Claim WideAt → Type 0
IsMadeOf m (answer.Done (outcome.Best b proof)) made = IsBestMade m b proof made
IsMadeOf m (answer.Done (outcome.Empty proof)) made = made ≡ Ok (Empty proof)
IsMadeOf m (answer.Endless at truths ray) made = IsEndlessMade m at truths ray made
IsMadeOf m (answer.Stopped stop) made = ⊥

-- a claim is true of the model, and the tests of its proof over the model itself pass
pub record IsAcceptedItself (m : ModelTree) (claim : Claim) : Type 0 where
  pub true_of : IsTrueOf m claim
  pub accepted : first_error (answer_groups m (nodes_of m) (least_at m claim) claim) ≡ Ok tt

-- this is made of the answer of the search whose log is in depth order
abbrev pub IsMadeAfter : ModelTree → ℕ → List Event → Result Claim WideAt → Type 0
IsMadeAfter m steps log made = (a : Answer) × (IsFoundBy m steps log a × IsMadeOf m a made)

-- A claim is true and accepted, and it is made of the answer of the search in depth order. Where none is made the log is in
-- depth order, and it ends at the budget with an event due, or before what is wide: in the search, or in the claim's own tests.
abbrev pub IsLogicSolution : ModelTree → ℕ → Reached → Type 0
IsLogicSolution m steps (Claimed claim) = IsAcceptedItself m claim × ((log : List Event) × IsMadeAfter m steps log (Ok claim))
IsLogicSolution m steps (GaveUp log stop) = IsSolved (model_meaning m) steps log.events (Err stop) ⊎ ((place : WideAt) × ((stop ≡ Wide place) × IsMadeAfter m steps log.events (Err place)))
