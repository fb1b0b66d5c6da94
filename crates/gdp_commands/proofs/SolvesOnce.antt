-- `solve` and `bench` have one answer.
use Rattle.std.proofs.Common.{◌≡◌, ℕ, List, Some, Result, Ok, Err, sym, ap, ◌∙◌, subst}
use Rattle.answers.specs.declared.answer.Answer as answers
use Rattle.answers.specs.declared.answer.Route.{Route}
use Rattle.answers.specs.declared.claim.Claim.{Claim}
use Rattle.cert_grammar.specs.Answers.{answer_text_of}
use Rattle.exact_simplex.specs.declared.log.Event.{Event}
use Rattle.gdp_grammar.specs.Canonical.{boolean_names, var_names}
use Rattle.gdp_solve.specs.Laws.{AreOneResult}
use Rattle.gdp_solve.specs.Solved.{IsSolution}
use Rattle.gdp_solve.proofs.SolvesOnce as solving
use Rattle.hybrid_rewrite.specs.declared.errors.CompileError.{CompileError}
use Rattle.hybrid_rewrite.specs.declared.errors.CompileError.TheVariants.{Memory}
use Rattle.log_writer.specs.Logs.{log_text_of}
use Rattle.model_maker.specs.Generated.{generated}
use Rattle.model_tree.specs.Values.{ModelTree}
use Rattle.rewrite_solving.specs.declared.reached.Reached.{Reached}
use Rattle.rewrite_solving.specs.declared.reached.Reached.TheVariants.{Claimed, GaveUp}
use Rattle.gdp_commands.specs.declared.status.Status.{Status}
use Rattle.gdp_commands.specs.declared.status.Status.TheVariants as status
use Rattle.gdp_commands.specs.Bench.{BenchedSays, bench_text, claim_line}
use Rattle.gdp_commands.specs.Compile.{RefusedSays}
use Rattle.gdp_commands.specs.Solve.{ReachedSays, SolveSays}
use Rattle.gdp_commands.specs.MakeLaws.{BenchesOnce}
use Rattle.gdp_commands.specs.SolveLaws.{SolvesOnce}
use Rattle.gdp_commands.specs.Table.{Answer, For, IsOne}
use Rattle.gdp_commands.proofs.OneAnswer.{one_first_if, one_of_model, one_refused}

-- two answers that say one thing
abbrev SaySame : Answer → Answer → Type 0
SaySame one other = (s s' : Status) (t t' : List ℕ) → one s t → other s' t' → (s ≡ s') × (t ≡ t')

reached_same : (m : ModelTree) (route : Route) (r q : Result Reached CompileError) → AreOneResult r q → SaySame (ReachedSays m route r) (ReachedSays m route q)
reached_same m route (Ok (Claimed claim)) (Ok (Claimed other)) same s s' t t' a b =
    let text : Claim → List ℕ = λ c. answer_text_of (var_names m) (boolean_names m) (record { route = route; claim = c }) in
    (a.0.0 ∙ sym b.0.0, a.0.1 ∙ ap text same ∙ sym b.0.1)
reached_same m route (Ok (GaveUp log stop)) (Ok (GaveUp other why)) same s s' t t' a b =
    (a.0 ∙ sym b.0, a.1 ∙ ap (λ (events : List Event). log_text_of (Some route) events stop) same.0 ∙ ap (log_text_of (Some route) other.events) same.1 ∙ sym b.1)
reached_same m route (Ok (Claimed claim)) (Ok (GaveUp log stop)) same s s' t t' a b = absurd same
reached_same m route (Ok (GaveUp log stop)) (Ok (Claimed claim)) same s s' t t' a b = absurd same
reached_same m route (Ok reached) (Err error) same s s' t t' a b = absurd same
reached_same m route (Err error) (Ok reached) same s s' t t' a b = absurd same
reached_same m route (Err error) (Err other) same s s' t t' a b = one_refused m other s s' t t' (subst (λ e. RefusedSays m e s t) same a) b

benched_same : (m : ModelTree) (route : Route) (seed size : ℕ) (r q : Result Reached CompileError) → AreOneResult r q → SaySame (BenchedSays m route seed size r) (BenchedSays m route seed size q)
benched_same m route seed size (Ok (Claimed claim)) (Ok (Claimed other)) same s s' t t' a b =
    (a.0 ∙ sym b.0, a.1 ∙ ap (λ c. bench_text route seed size (claim_line c)) same ∙ sym b.1)
benched_same m route seed size (Ok (GaveUp log stop)) (Ok (GaveUp other why)) same s s' t t' a b = (a.0 ∙ sym b.0, a.1 ∙ sym b.1)
benched_same m route seed size (Ok (Claimed claim)) (Ok (GaveUp log stop)) same s s' t t' a b = absurd same
benched_same m route seed size (Ok (GaveUp log stop)) (Ok (Claimed claim)) same s s' t t' a b = absurd same
benched_same m route seed size (Ok reached) (Err error) same s s' t t' a b = absurd same
benched_same m route seed size (Err error) (Ok reached) same s s' t t' a b = absurd same
benched_same m route seed size (Err error) (Err other) same s s' t t' a b = one_refused m other s s' t t' (subst (λ e. RefusedSays m e s t) same a) b

-- what solving comes to is one thing, and so is what is said of it, where running out of memory is no answer
one_solved : (m : ModelTree) (route : Route) (steps : ℕ) (says : Result Reached CompileError → Answer) → ((s : Status) (t : List ℕ) → ¬ says (Err Memory) s t)
    → ((r q : Result Reached CompileError) → AreOneResult r q → SaySame (says r) (says q)) → IsOne (For (IsSolution m route steps) says)
one_solved m route steps says never same s s' t t' a b =
    let one : AreOneResult a.0 b.0 = solving.solves_once m route steps a.0 b.0
    (λ e. never s t (subst (λ r. says r s t) e a.2)) (λ e. never s' t' (subst (λ r. says r s' t') e b.2)) a.1 b.1 in
    same a.0 b.0 one s s' t t' a.2 b.2

one_solve : (route : Route) (steps : ℕ) (model model_text : List ℕ) → IsOne (SolveSays route steps model model_text)
one_solve route steps model model_text =
    one_first_if _ _ _ _ (one_of_model model model_text _ (λ m. one_solved m route steps (ReachedSays m route) (λ s t says. says) (reached_same m route)))

pub solves_once : SolvesOnce
solves_once route steps model contents all revealed s s' t t' a b =
    one_solve route steps model all s s' t t'
    (subst (λ text. SolveSays route steps model text s t) (a.1 all revealed) a.2) (subst (λ text. SolveSays route steps model text s' t') (b.1 all revealed) b.2)

pub benches_once : BenchesOnce
benches_once route steps seed size contents =
    let m = generated seed size in
    one_solved m route steps (BenchedSays m route seed size) (λ s t says. says) (benched_same m route seed size)
