-- What solving a model over a rewrite answers.
use Rattle.std.specs.Prelude.{◌≡◌, ◌⊎◌, ℕ, ℤ, Bool, List, [], ◌∷◌, Some, Result, Ok, Err}
use Rattle.fractions.specs.Fraction.{Fraction}
use Rattle.lp_rows.specs.declared.columns.WideAt.{WideAt}
use Rattle.lp_rows.specs.Points.{PointValue}
use Rattle.model_tree.specs.Values.{ModelTree}
use Rattle.point_tests.specs.Worth.{IsValueOf}
use Rattle.hull_rewrite.specs.declared.choices.Choice.{Choice}
use Rattle.hybrid_rewrite.specs.Chosen.{flagging}
use Rattle.milps.specs.Milps.{MilpValue}
use Rattle.hybrid_rewrite.specs.declared.errors.CompileError.{CompileError}
use Rattle.hybrid_rewrite.specs.declared.errors.CompileError.TheVariants as refused
use Rattle.hybrid_rewrite.specs.Compiled.{CompiledValue, compiled}
use Rattle.proof_tree.specs.declared.proof.Node.{Node}
use Rattle.exact_simplex.specs.declared.log.Event.{Event}
use Rattle.exact_simplex.specs.Log.{LogOf}
use Rattle.answers.specs.declared.stop.Stop.TheVariants.{Wide}
use Rattle.search_rules.specs.declared.outcome.Answer.{Answer}
use Rattle.search_rules.specs.declared.outcome.Answer.TheVariants as answer
use Rattle.search_rules.specs.declared.outcome.Outcome.{Outcome}
use Rattle.search_rules.specs.declared.outcome.Outcome.TheVariants as outcome
use Rattle.search_rules.specs.Answered.{IsAnswer}
use Rattle.search_rules.specs.Solved.{IsSolved}
use Rattle.milp_nodes.specs.Nodes.{problem_of}
use Rattle.answers.specs.declared.claim.Claim.{Claim}
use Rattle.answers.specs.declared.claim.Claim.TheVariants.{Best, Empty, Endless}
use Rattle.answer_tests.specs.declared.errors.AnswerError.{AnswerError}
use Rattle.answer_tests.specs.Groups.{first_error, claim_groups, point_group}
use Rattle.answer_tests.specs.Laws.{IsTrueOf}
use Rattle.certificate_checker.specs.Programs.{subject_of, least_for}
use Rattle.certificate_checker.specs.Answers.{answer_groups, best_of}
use Rattle.lowest_terms.specs.Made.{size_group, wide_place}
use Rattle.lowest_terms.specs.Terms.{IsLowestOf}
use Rattle.rewrite_solving.specs.declared.reached.Reached.{Reached}
use Rattle.rewrite_solving.specs.declared.reached.Reached.TheVariants.{Claimed, GaveUp}
use Rattle.rewrite_solving.specs.Cuts.{IsCutOf, IsRayCutOf}
use Rattle.milp_nodes.specs.Nodes.{milp_meaning}

-- in lowest terms the cut of a point
pub record IsLowestCut (m : ModelTree) (x y : PointValue) (truths : List Bool) : Type 0 where
  pub cut : PointValue
  pub is_cut : IsCutOf m x cut truths
  pub lowest : IsLowestOf cut y

-- an answer's claim is true of the model, and it is accepted over the program
pub record IsAccepted (m : ModelTree) (milp : MilpValue) (claim : Claim) : Type 0 where
  pub true_of : IsTrueOf m claim
  pub accepted : first_error (answer_groups m (subject_of milp) (least_for milp (best_of claim)) claim) ≡ Ok tt

-- the claim of a search's point, cut and in lowest terms, with its value; or the place at which one of the claim's own tests is wide
abbrev pub IsBestMade : ModelTree → PointValue → List Node → Result Claim WideAt → Type 0
IsBestMade m x proof (Ok claim) = (y : PointValue) × (truths : List Bool) × (v : Fraction) × (IsLowestCut m x y truths × IsValueOf m.goal y v × (claim ≡ Best y truths v proof))
IsBestMade m x proof (Err place) = (y : PointValue) × (truths : List Bool) × (error : AnswerError)
    × (IsLowestCut m x y truths × (first_error (point_group m y truths ∷ size_group m.goal y ∷ []) ≡ Err error) × (wide_place error ≡ Some place))

abbrev pub IsEndlessMade : ModelTree → PointValue → List ℤ → Result Claim WideAt → Type 0
IsEndlessMade m x ray (Ok claim) = (y : PointValue) × (truths : List Bool) × (cut : List ℤ) × (IsLowestCut m x y truths × IsRayCutOf m ray cut × (claim ≡ Endless y truths cut))
IsEndlessMade m x ray (Err place) = (y : PointValue) × (truths : List Bool) × (cut : List ℤ) × (error : AnswerError)
    × (IsLowestCut m x y truths × IsRayCutOf m ray cut × (first_error (claim_groups m (Endless y truths cut)) ≡ Err error) × (wide_place error ≡ Some place))

abbrev pub IsOutcomeMade : ModelTree → Outcome → Result Claim WideAt → Type 0
IsOutcomeMade m (outcome.Best b proof) made = IsBestMade m b.at proof made
IsOutcomeMade m (outcome.Empty proof) made = made ≡ Ok (Empty proof)

-- what is made of a search's answer
abbrev pub IsMadeOf : ModelTree → Answer → Result Claim WideAt → Type 0
IsMadeOf m (answer.Done o) made = IsOutcomeMade m o made
IsMadeOf m (answer.Endless at truths ray) made = IsEndlessMade m at ray made
IsMadeOf m (answer.Stopped stop) made = ⊥

-- the log is a whole search's over the program, and this is made of its answer
abbrev pub IsMadeAfter : ModelTree → MilpValue → ℕ → List Event → Result Claim WideAt → Type 0
IsMadeAfter m milp steps log made = (a : Answer) × (IsAnswer (problem_of milp) (milp_meaning milp) steps log a × IsMadeOf m a made)

-- A claim is true and accepted, and it is made of the answer of the search in depth order. Where none is made the log is in
-- depth order, and it ends at the budget with an event due, or before what is wide: in the search, or in the claim's own tests.
abbrev pub IsSolution : ModelTree → MilpValue → ℕ → Reached → Type 0
IsSolution m milp steps (Claimed claim) = IsAccepted m milp claim × ((log : List Event) × IsMadeAfter m milp steps log (Ok claim))
IsSolution m milp steps (GaveUp log stop) = IsSolved (milp_meaning milp) steps log.events (Err stop) ⊎ ((place : WideAt) × ((stop ≡ Wide place) × IsMadeAfter m milp steps log.events (Err place)))

-- A solution over the program that the model is compiled to; or why it is not compiled.
abbrev pub IsCompiledSolution : ModelTree → Choice → ℕ → Result Reached CompileError → Type 0
IsCompiledSolution m choice steps (Ok come) = (c : CompiledValue) × ((compiled m (flagging choice m) ≡ Ok c) × IsSolution m c.milp steps come)
IsCompiledSolution m choice steps (Err refusal) = (compiled m (flagging choice m) ≡ Err refusal) ⊎ (refusal ≡ refused.Memory)
