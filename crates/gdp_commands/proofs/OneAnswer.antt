-- A table has at most one answer, and so has each command.
use Rattle.std.proofs.Common.{◌≡◌, ℕ, Bool, List, Result, Ok, Err, sym, ◌∙◌, subst, ap, inl, inr}
use Rattle.lp_rows.specs.Points.{PointValue}
use Rattle.point_tests.specs.declared.verdicts.Verdict.{Verdict}
use Rattle.point_tests.specs.declared.verdicts.Verdict.TheVariants.{Holds, FailsAt}
use Rattle.point_tests.specs.declared.verdicts.SumWide.{SumWide}
use Rattle.point_tests.specs.Satisfied.{point_of}
use Rattle.point_tests.specs.Tests.{tests_of, verdict_of}
use Rattle.model_tree.specs.Values.{ModelTree}
use Rattle.gdp_grammar.specs.Canonical.{boolean_names, canonical_text, var_names}
use Rattle.gdp_grammar.proofs.Once.{one_model, never_both, one_first_bad}
use Rattle.gdp_grammar.proofs.PointOnce.{one_point, never_point_and_bad, one_first_bad_of_point}
use Rattle.answers.specs.declared.answer.Answer as answers
use Rattle.answer_checker.specs.declared.errors.CheckError.{CheckError}
use Rattle.answer_checker.specs.declared.errors.CheckError.TheVariants.{Test, Rewrite}
use Rattle.answer_checker.specs.Valid.{check_groups}
use Rattle.answer_tests.specs.Groups.{first_error}
use Rattle.cert_grammar.specs.ExactLines.{exact_lines}
use Rattle.cert_grammar.specs.Laws.{AnswersExact}
use Rattle.certificate_checker.specs.declared.refusal.Refusal.{Refusal}
use Rattle.certificate_checker.specs.declared.refusal.Refusal.TheVariants as refusals
use Rattle.hull_rewrite.specs.declared.choices.Choice.{Choice}
use Rattle.hybrid_rewrite.specs.Chosen.{flagging}
use Rattle.hybrid_rewrite.specs.Compiled.{CompiledValue, compiled}
use Rattle.hybrid_rewrite.specs.declared.errors.CompileError.{CompileError}
use Rattle.hybrid_rewrite.specs.declared.errors.CompileError.TheVariants.{NoBound, MTooWide, TooBig, Memory}
use Rattle.gdp_commands.specs.declared.status.Status.{Status}
use Rattle.gdp_commands.specs.declared.status.Status.TheVariants.{Done}
use Rattle.gdp_commands.specs.Check.{AnswerSays, CheckSays, CheckedSays, RefusalSays}
use Rattle.gdp_commands.specs.Compile.{CompiledSays, CompileSays, RefusedSays}
use Rattle.gdp_commands.specs.Format.{FormatSays}
use Rattle.gdp_commands.specs.Table.{Answer, Is, FirstIf, For, Parsed, IsOne}
use Rattle.gdp_commands.specs.Test.{VerdictSays, TestSays}
use Rattle.gdp_commands.specs.Texts.{IsPoint, ModelSays, PointSays}

one_is : (status : Status) (text : List ℕ) → IsOne (Is status text)
one_is status text s s' t t' a b = (a.0 ∙ sym b.0, a.1 ∙ sym b.1)

pub one_first_if : (condition : Type 0) (status : Status) (text : List ℕ) (below : Answer) → IsOne below → IsOne (FirstIf condition status text below)
one_first_if condition status text below one s s' t t' (inl a) (inl b) = one_is status text s s' t t' a.1 b.1
one_first_if condition status text below one s s' t t' (inl a) (inr b) = absurd (b.0 a.0)
one_first_if condition status text below one s s' t t' (inr a) (inl b) = absurd (a.0 b.0)
one_first_if condition status text below one s s' t t' (inr a) (inr b) = one s s' t t' a.1 b.1

one_for : {A : Type 0} (is : A → Type 0) (below : A → Answer) → ((x y : A) → is x → is y → x ≡ y) → ((x : A) → IsOne (below x)) → IsOne (For is below)
one_for is below same one s s' t t' a b =
    one b.0 s s' t t' (subst (λ (x : _). below x s t) (same a.0 b.0 a.1 b.1) a.2) b.2

-- What is read is one thing, or bad at one line for one cause, and not both.
one_parsed : {A C : Type 0} (is_bad : ℕ → C → Type 0) (status : Status) (message : ℕ → C → List ℕ) (is : A → Type 0) (below : A → Answer) →
    ((line line' : ℕ) (cause cause' : C) → is_bad line cause → is_bad line' cause' → (line ≡ line') × (cause ≡ cause')) →
    ((x : A) (line : ℕ) (cause : C) → is x → ¬ is_bad line cause) →
    ((x y : A) → is x → is y → x ≡ y) → ((x : A) → IsOne (below x)) → IsOne (Parsed is_bad status message is below)
one_parsed {A} {C} is_bad status message is below bad never same one s s' t t' (inl a) (inl b) =
    let both : (a.0 ≡ b.0) × (a.1 ≡ b.1) = bad a.0 b.0 a.1 b.1 a.2 b.2 in
    (a.3.0 ∙ sym b.3.0, a.3.1 ∙ ap (λ (line : ℕ). message line a.1) both.0 ∙ ap (λ (cause : C). message b.0 cause) both.1 ∙ sym b.3.1)
one_parsed {A} {C} is_bad status message is below bad never same one s s' t t' (inl a) (inr b) = absurd (never b.0 a.0 a.1 b.1 a.2)
one_parsed {A} {C} is_bad status message is below bad never same one s s' t t' (inr a) (inl b) = absurd (never a.0 b.0 b.1 a.1 b.2)
one_parsed {A} {C} is_bad status message is below bad never same one s s' t t' (inr a) (inr b) = one_for is below same one s s' t t' a b

one_verdict : (verdict : Result Verdict SumWide) → IsOne (VerdictSays verdict)
one_verdict (Ok Holds) = one_is _ _
one_verdict (Ok (FailsAt mark)) = one_is _ _
one_verdict (Err wide) = one_is _ _

pub one_of_model : (name text : List ℕ) (below : ModelTree → Answer) → ((m : ModelTree) → IsOne (below m)) → IsOne (ModelSays name text below)
one_of_model name text below one = one_parsed _ _ _ _ _ (one_first_bad text) (never_both text) (one_model text) one

-- a text spells at most one point of a model
same_point : (m : ModelTree) (text : List ℕ) (p q : PointValue × List Bool) → IsPoint m text p → IsPoint m text q → p ≡ q
same_point m text p q a b =
    let both : (p.0 ≡ q.0) × (p.1 ≡ q.1) = one_point m text p.0 q.0 p.1 q.1 a b in
    ap (λ (at : PointValue). pair at p.1) both.0 ∙ ap (λ (truths : List Bool). pair q.0 truths) both.1
  where
    pair : PointValue → List Bool → PointValue × List Bool
    pair at truths = (at, truths)

one_of_point : (m : ModelTree) (name text : List ℕ) (below : PointValue × List Bool → Answer) → ((p : PointValue × List Bool) → IsOne (below p)) → IsOne (PointSays m name text below)
one_of_point m name text below one =
    one_parsed _ _ _ _ _ (one_first_bad_of_point m text) (λ p line cause. never_point_and_bad m text p.0 p.1 line cause) (same_point m text) one

pub one_test : (model point model_text point_text : List ℕ) → IsOne (TestSays model point model_text point_text)
one_test model point model_text point_text =
    one_first_if _ _ _ _ (one_first_if _ _ _ _ (
    one_of_model model model_text _ (λ m.
    one_of_point m point point_text _ (λ p. one_verdict (verdict_of (tests_of m (point_of p.0 p.1)))))))

pub one_format : (model model_text : List ℕ) → IsOne (FormatSays model model_text)
one_format model model_text =
    one_first_if _ _ _ _ (one_of_model model model_text _ (λ m. one_is Done (canonical_text m)))

pub one_refused : (m : ModelTree) (error : CompileError) → IsOne (RefusedSays m error)
one_refused m (NoBound mark var) = one_is _ _
one_refused m (MTooWide mark) = one_is _ _
one_refused m TooBig = one_is _ _
one_refused m Memory = λ s s' t t' a b. absurd a

one_compiled : (m : ModelTree) (answer : Result CompiledValue CompileError) → IsOne (CompiledSays m answer)
one_compiled m (Ok value) = one_is _ _
one_compiled m (Err error) = one_refused m error

pub one_compile : (choice : Choice) (model model_text : List ℕ) → IsOne (CompileSays choice model model_text)
one_compile choice model model_text =
    one_first_if _ _ _ _ (one_of_model model model_text _ (λ m. one_compiled m (compiled m (flagging choice m))))

one_refusal : (refusal : Refusal) → IsOne (RefusalSays refusal)
one_refusal (refusals.Point mark) = one_is _ _
one_refusal (refusals.PointWide mark) = one_is _ _
one_refusal refusals.Value = one_is _ _
one_refusal refusals.ValueWide = one_is _ _
one_refusal (refusals.Ray mark) = one_is _ _
one_refusal (refusals.RayWide mark) = one_is _ _
one_refusal (refusals.Tree node) = one_is _ _
one_refusal (refusals.Leaf node) = one_is _ _
one_refusal (refusals.Wide node) = one_is _ _
one_refusal refusals.Memory = λ s s' t t' a b. absurd a

one_checked : (m : ModelTree) (answer : Result (Unit {0}) CheckError) → IsOne (CheckedSays m answer)
one_checked m (Ok u) = one_is _ _
one_checked m (Err (Test refusal)) = one_refusal refusal
one_checked m (Err (Rewrite error)) = one_refused m error

one_of_answer : AnswersExact → (m : ModelTree) (name text : List ℕ) (below : answers.Answer → Answer) → ((a : answers.Answer) → IsOne (below a)) → IsOne (AnswerSays m name text below)
one_of_answer exact m name text below one =
    let e = exact (var_names m) (boolean_names m) in
    one_parsed _ _ _ _ _ (e.one_first_bad (exact_lines text)) (e.never_both (exact_lines text)) (e.one_value (exact_lines text)) one

pub one_check : AnswersExact → (model answer model_text answer_text : List ℕ) → IsOne (CheckSays model answer model_text answer_text)
one_check exact model answer model_text answer_text =
    one_first_if _ _ _ _ (one_first_if _ _ _ _ (
    one_of_model model model_text _ (λ m.
    one_of_answer exact m answer answer_text _ (λ a. one_checked m (first_error (check_groups m a))))))
