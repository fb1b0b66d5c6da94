-- What solving comes to is one thing, by each route.
use Rattle.std.proofs.Common.{◌≡◌, ◌≢◌, ◌⊎◌, ℕ, ℤ, Bool, List, Result, Ok, Err, refl, sym, ap, ◌∙◌, subst, inl, inr}
use Rattle.lp_rows.specs.declared.columns.WideAt.{WideAt}
use Rattle.lp_rows.specs.Points.{PointValue}
use Rattle.model_tree.specs.Values.{ModelTree}
use Rattle.proof_tree.specs.declared.proof.Node.{Node}
use Rattle.answers.specs.declared.answer.Route.TheVariants.{BigM, Hull, Hybrid, Logic}
use Rattle.answers.specs.declared.claim.Claim.{Claim}
use Rattle.answer_tests.specs.declared.errors.AnswerError.{AnswerError}
use Rattle.lowest_terms.specs.Made.{IsBestOf, IsEndlessOf}
use Rattle.lowest_terms.proofs.Once.{OfLowest, best_once, endless_once, lowest_once}
use Rattle.model_nodes.specs.Nodes.{model_meaning}
use Rattle.hull_rewrite.specs.declared.choices.Choice.{Choice}
use Rattle.hull_rewrite.specs.declared.choices.Choice.TheVariants as choice
use Rattle.hybrid_rewrite.specs.Chosen.{flagging}
use Rattle.hybrid_rewrite.specs.Compiled.{CompiledValue, compiled}
use Rattle.hybrid_rewrite.specs.declared.errors.CompileError.{CompileError}
use Rattle.hybrid_rewrite.specs.declared.errors.CompileError.TheVariants.{Memory}
use Rattle.search_rules.specs.declared.outcome.Answer.{Answer}
use Rattle.search_rules.specs.declared.outcome.Answer.TheVariants as answer
use Rattle.search_rules.specs.declared.outcome.Outcome.TheVariants as outcome
use Rattle.search_rules.specs.declared.waiting.Best.{Best}
use Rattle.rewrite_solving.specs.declared.reached.Reached.{Reached}
use Rattle.rewrite_solving.specs.declared.reached.Reached.TheVariants.{Claimed, GaveUp}
use Rattle.rewrite_solving.specs.Cuts.{IsRayCutOf}
use Rattle.rewrite_solving.specs.Solutions as rewrite
use Rattle.rewrite_solving.proofs.Comes.{Comes, IsOneMaking, IsPlaced, comes_once, placed_once}
use Rattle.rewrite_solving.proofs.SolvedOnce.{ray_cut_once, solved_once}
use Rattle.gdp_solve.specs.Laws.{AreOneResult, SolvesOnce}
use Rattle.gdp_solve.specs.Logic.{IsBestMade, IsEndlessMade, IsLogicSolution, IsMadeOf}
use Rattle.gdp_solve.specs.Solved.{IsSolution, IsItsOwnSolution}

-- what was made of a point, with the test that does not pass where none was
abbrev BestFound : ModelTree → Best → List Node → Result Claim WideAt → Type 0
BestFound m b proof r = (s : Result Claim AnswerError) × OfLowest b.at (λ y t. IsBestOf m y b.truths proof t) s × IsPlaced s r

best_found : (m : ModelTree) (b : Best) (proof : List Node) (r : Result Claim WideAt) → IsBestMade m b proof r → BestFound m b proof r
best_found m b proof (Ok claim) i = (Ok claim, i, refl)
best_found m b proof (Err place) i = (Err i.0, i.1.0, i.1.1)

best_same : (m : ModelTree) (b : Best) (proof : List Node) (r q : Result Claim WideAt) → BestFound m b proof r → BestFound m b proof q → r ≡ q
best_same m b proof r q i j =
    let same = lowest_once b.at (λ y t. IsBestOf m y b.truths proof t) i.0 j.0 (λ y s t. best_once m y b.truths proof s t) i.1 j.1 in
    placed_once j.0 r q (subst (λ s. IsPlaced s r) same i.2) j.2

-- the same of a point and a ray
abbrev EndlessFound : ModelTree → PointValue → List Bool → List ℤ → Result Claim WideAt → Type 0
EndlessFound m at truths ray r = (cut : List ℤ) × (s : Result Claim AnswerError) × IsRayCutOf m ray cut × OfLowest at (λ y t. IsEndlessOf m y truths cut t) s × IsPlaced s r

endless_found : (m : ModelTree) (at : PointValue) (truths : List Bool) (ray : List ℤ) (r : Result Claim WideAt) → IsEndlessMade m at truths ray r → EndlessFound m at truths ray r
endless_found m at truths ray (Ok claim) i = (i.0, Ok claim, i.1.0, i.1.1, refl)
endless_found m at truths ray (Err place) i = (i.0, Err i.1, i.2.0, i.2.1, i.2.2)

endless_same : (m : ModelTree) (at : PointValue) (truths : List Bool) (ray : List ℤ) (r q : Result Claim WideAt) → EndlessFound m at truths ray r → EndlessFound m at truths ray q → r ≡ q
endless_same m at truths ray r q i j =
    let cut = ray_cut_once m ray i.0 j.0 i.2 j.2 in
    let made : OfLowest at (λ y t. IsEndlessOf m y truths j.0 t) i.1 = subst (λ (c : List ℤ). OfLowest at (λ y t. IsEndlessOf m y truths c t) i.1) cut i.3 in
    let same = lowest_once at (λ y t. IsEndlessOf m y truths j.0 t) i.1 j.1 (λ y s t. endless_once m y truths j.0 s t) made j.3 in
    placed_once j.1 r q (subst (λ s. IsPlaced s r) same i.4) j.4

one_making : (m : ModelTree) → IsOneMaking (IsMadeOf m)
one_making m = record { once = once; never = λ stop r made. made }
  where
    once : (a : Answer) (r q : Result Claim WideAt) → IsMadeOf m a r → IsMadeOf m a q → r ≡ q
    once (answer.Done (outcome.Best b proof)) r q i j = best_same m b proof r q (best_found m b proof r i) (best_found m b proof q j)
    once (answer.Done (outcome.Empty proof)) r q i j = i ∙ sym j
    once (answer.Endless at truths ray) r q i j = endless_same m at truths ray r q (endless_found m at truths ray r i) (endless_found m at truths ray q j)
    once (answer.Stopped stop) r q i j = absurd i

comes_of : (m : ModelTree) (steps : ℕ) (r : Reached) → IsLogicSolution m steps r → Comes (model_meaning m) (IsMadeOf m) steps r
comes_of m steps (Claimed claim) i = (i.1.0, (i.1.1.0, i.1.1.1.0.1, i.1.1.1.1))
comes_of m steps (GaveUp log stop) (inl ends) = inl ends
comes_of m steps (GaveUp log stop) (inr i) = inr (i.0, i.1.0, (i.1.1.0, i.1.1.1.0.1, i.1.1.1.1))

-- by logic memory is the one refusal
logic_once : (m : ModelTree) (steps : ℕ) (r q : Result Reached CompileError) → r ≢ Err Memory → q ≢ Err Memory → IsItsOwnSolution m steps r → IsItsOwnSolution m steps q → AreOneResult r q
logic_once m steps (Ok r) (Ok q) n k i j = comes_once (model_meaning m) (IsMadeOf m) (one_making m) steps r q (comes_of m steps r i) (comes_of m steps q j)
logic_once m steps (Err refusal) q n k i j = absurd (n (ap Err i))
logic_once m steps (Ok r) (Err refusal) n k i j = absurd (k (ap Err j))

-- a model compiles to one program, or is refused for one cause
one_value : (c d : CompiledValue) → ◌≡◌ {A = Result CompiledValue CompileError} (Ok c) (Ok d) → c ≡ d
one_value c d e = cc

one_refusal : (e f : CompileError) → ◌≡◌ {A = Result CompiledValue CompileError} (Err e) (Err f) → e ≡ f
one_refusal e f h = cc

never_both : (c : CompiledValue) (e : CompileError) → ◌≡◌ {A = Result CompiledValue CompileError} (Ok c) (Err e) → ⊥
never_both c e h = cc

refused : (m : ModelTree) (by : Choice) (refusal : CompileError) → ◌≢◌ {A = Result Reached CompileError} (Err refusal) (Err Memory)
    → (compiled m (flagging by m) ≡ Err refusal) ⊎ (refusal ≡ Memory) → compiled m (flagging by m) ≡ Err refusal
refused m by refusal n (inl e) = e
refused m by refusal n (inr e) = absurd (n (ap Err e))

compiled_once : (m : ModelTree) (by : Choice) (steps : ℕ) (r q : Result Reached CompileError) → r ≢ Err Memory → q ≢ Err Memory
    → rewrite.IsCompiledSolution m by steps r → rewrite.IsCompiledSolution m by steps q → AreOneResult r q
compiled_once m by steps (Ok r) (Ok q) n k i j =
    let same = one_value i.0 j.0 (sym i.1.0 ∙ j.1.0) in
    solved_once m j.0.milp steps r q (subst (λ (c : CompiledValue). rewrite.IsSolution m c.milp steps r) same i.1.1) j.1.1
compiled_once m by steps (Ok r) (Err refusal) n k i j = never_both i.0 refusal (sym i.1.0 ∙ refused m by refusal k j)
compiled_once m by steps (Err refusal) (Ok q) n k i j = never_both j.0 refusal (sym j.1.0 ∙ refused m by refusal n i)
compiled_once m by steps (Err refusal) (Err why) n k i j = one_refusal refusal why (sym (refused m by refusal n i) ∙ refused m by why k j)

pub solves_once : SolvesOnce
solves_once m BigM steps r q n k i j = compiled_once m choice.BigM steps r q n k i j
solves_once m Hull steps r q n k i j = compiled_once m choice.Hull steps r q n k i j
solves_once m Hybrid steps r q n k i j = compiled_once m choice.Hybrid steps r q n k i j
solves_once m Logic steps r q n k i j = logic_once m steps r q n k i j
