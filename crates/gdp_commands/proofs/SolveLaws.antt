-- What `solve` and `check` write: claims that are true, and logs.
use Rattle.std.proofs.Common.{◌≡◌, ◌≢◌, ℕ, List, Result, Ok, Err, refl, ◌∙◌, subst, inl, inr}
use Rattle.std.proofs.lemmas.List.{length-map}
use Rattle.answer_checker.specs.declared.errors.CheckError.{CheckError}
use Rattle.answer_checker.specs.declared.errors.CheckError.TheVariants.{Test, Rewrite}
use Rattle.answer_checker.specs.Valid.{check_groups}
use Rattle.answer_tests.specs.Counted.{IsCounted}
use Rattle.answer_tests.specs.Groups.{first_error}
use Rattle.answers.specs.declared.answer.Answer as answers
use Rattle.answers.specs.declared.answer.Route.{Route}
use Rattle.answers.specs.declared.claim.Claim.{Claim}
use Rattle.answers.specs.declared.claim.Claim.TheVariants.{Best, Empty, Endless}
use Rattle.cert_grammar.specs.Answers.{SpellsAnswer, answer_grammar}
use Rattle.cert_grammar.specs.ExactLines.{exact_lines}
use Rattle.cert_grammar.specs.Laws as cert
use Rattle.cert_grammar.proofs.Sound.{answer_is_sound}
use Rattle.certificate_checker.specs.declared.refusal.Refusal.{Refusal}
use Rattle.certificate_checker.specs.declared.refusal.Refusal.TheVariants as refusals
use Rattle.gdp_grammar.specs.Canonical.{boolean_names, var_names}
use Rattle.gdp_grammar.specs.Spelling.{Spells}
use Rattle.gdp_grammar.proofs.Once.{one_model, never_both}
use Rattle.gdp_solve.specs.Solved.{IsSolution}
use Rattle.gdp_solve.proofs.Right.{claims_are_right}
use Rattle.hybrid_rewrite.specs.declared.errors.CompileError.{CompileError}
use Rattle.hybrid_rewrite.specs.declared.errors.CompileError.TheVariants as compile
use Rattle.model_tree.specs.Values.{ModelTree}
use Rattle.rewrite_solving.specs.declared.reached.Reached.{Reached}
use Rattle.rewrite_solving.specs.declared.reached.Reached.TheVariants.{Claimed, GaveUp}
use Rattle.text_grammar.proofs.GrammarsLemmas.{is_exact}
use Rattle.gdp_commands.specs.declared.status.Status.{Status}
use Rattle.gdp_commands.specs.declared.status.Status.TheVariants as status
use Rattle.gdp_commands.specs.Check.{AnswerSays, CheckedSays, RefusalSays}
use Rattle.gdp_commands.specs.Compile.{RefusedSays}
use Rattle.gdp_commands.specs.Solve.{ReachedSays, SolveSays}
use Rattle.gdp_commands.specs.SolveLaws.{ChecksTruly, GivesUpExactly, IsAnsweredAs, IsGivenUpAs, SolvedIsAccepted, SolvesTruly}
use Rattle.gdp_commands.specs.Messages.{too_long}
use Rattle.gdp_commands.specs.Table.{Answer, FirstIf, For}
use Rattle.gdp_commands.specs.Texts.{IsLong, IsLongAnswer, ModelSays}
use Rattle.gdp_commands.proofs.ReadOnce.{within, of_model, of_answer}
use Rattle.gdp_commands.proofs.Spelled.{spelled_is_sound}
use Rattle.gdp_commands.proofs.Valid.{claim_of_text, valid_is_true}

-- a refusal has the status 4
pub refused_is : (m : ModelTree) (error : CompileError) (s : Status) (written : List ℕ) → RefusedSays m error s written → s ≡ status.Rewrite
refused_is m (compile.NoBound mark var) s written says = says.0
refused_is m (compile.MTooWide mark) s written says = says.0
refused_is m compile.TooBig s written says = says.0
refused_is m compile.Memory s written says = absurd says

pub done_is_not_refused : status.Done ≢ status.Rewrite
done_is_not_refused e = cc e

gave_up_is_not_refused : status.GaveUp ≢ status.Rewrite
gave_up_is_not_refused e = cc e

-- what is solved with status 0 is a claim
claimed : (m : ModelTree) (route : Route) (steps : ℕ) (r : Result Reached CompileError) (written : List ℕ) → IsSolution m route steps r → ReachedSays m route r status.Done written → IsAnsweredAs route m written
claimed m route steps (Ok (Claimed claim)) written solved says = record { claim = claim; text = says.0.1; spells = says.1; right = claims_are_right m route steps claim solved }
claimed m route steps (Ok (GaveUp log stop)) written solved says = absurd (cc says.0)
claimed m route steps (Err error) written solved says = absurd (done_is_not_refused (refused_is m error status.Done written says))

-- and with status 3 a give-up
given_up : (m : ModelTree) (route : Route) (steps : ℕ) (r : Result Reached CompileError) (written : List ℕ) → IsSolution m route steps r → ReachedSays m route r status.GaveUp written → IsGivenUpAs route steps m written
given_up m route steps (Ok (Claimed claim)) written solved says = absurd (cc says.0.0)
given_up m route steps (Ok (GaveUp log stop)) written solved says = record { log = log; stop = stop; solution = solved; text = says.1 }
given_up m route steps (Err error) written solved says = absurd (gave_up_is_not_refused (refused_is m error status.GaveUp written says))

-- what is solved of the model that a text spells
solved_of : (route : Route) (steps : ℕ) (model text : List ℕ) (s : Status) (written : List ℕ) → s ≢ status.Text → SolveSays route steps model text s written
    → (m : ModelTree) × Spells text m × ((r : Result Reached CompileError) × IsSolution m route steps r × ReachedSays m route r s written)
solved_of route steps model text s written other says =
    let below : ModelTree → Answer = λ m. For (IsSolution m route steps) (ReachedSays m route) in
    of_model model text below s written other (within 8388608 model text (ModelSays model text below) s written other says).1

pub solves_truly : SolvesTruly
solves_truly route steps model contents written says =
    let found = solved_of route steps model says.0 status.Done written (λ e. cc e) says.2 in
    record { text = says.0; behind = says.1; model = found.0; spelled = found.1; is = claimed found.0 route steps found.2.0 written found.2.1 found.2.2 }

pub gives_up_exactly : GivesUpExactly
gives_up_exactly route steps model contents written says =
    let found = solved_of route steps model says.0 status.GaveUp written (λ e. cc e) says.2 in
    record { text = says.0; behind = says.1; model = found.0; spelled = found.1; is = given_up found.0 route steps found.2.0 written found.2.1 found.2.2 }

-- with status 0 all tests passed
refusal_is_no : (refusal : Refusal) (written : List ℕ) → ¬ RefusalSays refusal status.Done written
refusal_is_no (refusals.Point mark) written says = cc says.0
refusal_is_no (refusals.PointWide mark) written says = cc says.0
refusal_is_no refusals.Value written says = cc says.0
refusal_is_no refusals.ValueWide written says = cc says.0
refusal_is_no (refusals.Ray mark) written says = cc says.0
refusal_is_no (refusals.RayWide mark) written says = cc says.0
refusal_is_no (refusals.Tree node) written says = cc says.0
refusal_is_no (refusals.Leaf node) written says = cc says.0
refusal_is_no (refusals.Wide node) written says = cc says.0
refusal_is_no refusals.Memory written says = says

all_pass : (m : ModelTree) (r : Result (Unit {0}) CheckError) (written : List ℕ) → CheckedSays m r status.Done written → r ≡ Ok tt
all_pass m (Ok u) written says = refl
all_pass m (Err (Test refusal)) written says = absurd (refusal_is_no refusal written says)
all_pass m (Err (Rewrite error)) written says = absurd (done_is_not_refused (refused_is m error status.Done written says))

-- a claim that was read has the model's counts
counted_of : (m : ModelTree) (claim : Claim) → cert.IsClaim (var_names m) (boolean_names m) claim → IsCounted m claim
counted_of m (Best at truths value proof) c = (c.1.0.nums_long ∙ length-map m.vars (λ v. v.0), c.1.0.truths_long ∙ length-map m.booleans (λ b. b.0))
counted_of m (Empty proof) c = tt
counted_of m (Endless at truths ray) c = (c.0.nums_long ∙ length-map m.vars (λ v. v.0), c.0.truths_long ∙ length-map m.booleans (λ b. b.0), c.1.long ∙ length-map m.vars (λ v. v.0))

pub checks_truly : ChecksTruly
checks_truly model answer contents written says =
    let other : status.Done ≢ status.Text = λ e. cc e in
    let checked : ModelTree → answers.Answer → Answer = λ m a. CheckedSays m (first_error (check_groups m a)) in
    let answered : ModelTree → Answer = λ m. AnswerSays m answer says.2.0 (checked m) in
    let modelled = ModelSays model says.0 answered in
    let short = within 8388608 model says.0 (FirstIf (IsLongAnswer says.2.0) status.Text (too_long answer) modelled) status.Done written other says.2.2 in
    let both = within 1099511627776 answer says.2.0 modelled status.Done written other short.1 in
    let m = of_model model says.0 answered status.Done written other both.1 in
    let a = of_answer m.0 answer says.2.0 (checked m.0) status.Done written other m.2 in
    let valid = all_pass m.0 (first_error (check_groups m.0 a.0)) written a.2 in
    let read = answer_is_sound (var_names m.0) (boolean_names m.0) says.2.0 a.0 a.1 in
    record {
      text = says.0;
      behind = says.1;
      model = m.0;
      spelled = m.1;
      is = record {
        text = says.2.0;
        behind = says.2.1;
        answer = a.0;
        spelled = a.1;
        valid = valid;
        true_of = valid_is_true m.0 a.0 (spelled_is_sound says.0 m.0 m.1) (counted_of m.0 a.0.claim read) (claim_of_text (var_names m.0) (boolean_names m.0) a.0.claim read) valid;
      };
    }

-- where all tests pass, the answer is accepted
passing_is : (m : ModelTree) (r : Result (Unit {0}) CheckError) (s : Status) (text : List ℕ) → r ≡ Ok tt → CheckedSays m r s text → s ≡ status.Done
passing_is m (Ok u) s text e says = says.0
passing_is m (Err error) s text e says = absurd (cc e)

not_long : (route : Route) (steps : ℕ) (model model_text written : List ℕ) → SolveSays route steps model model_text status.Done written → ¬ IsLong model_text
not_long route steps model model_text written says =
    let below : ModelTree → Answer = λ m. For (IsSolution m route steps) (ReachedSays m route) in
    (within 8388608 model model_text (ModelSays model model_text below) status.Done written (λ e. cc e) says).0

pub solved_is_accepted : SolvedIsAccepted
solved_is_accepted route steps model answer model_text written text s short solved (inl long) =
    absurd ((not_long route steps model model_text written solved) long.0)
solved_is_accepted route steps model answer model_text written text s short solved (inr (fits, inl long)) = absurd (short long.0)
solved_is_accepted route steps model answer model_text written text s short solved (inr (fits, inr (near, inl bad))) =
    let found = solved_of route steps model model_text status.Done written (λ e. cc e) solved in
    absurd (never_both model_text found.0 bad.0 bad.1 found.1 bad.2)
solved_is_accepted route steps model answer model_text written text s short solved (inr (fits, inr (near, inr (m, spelled, inl bad)))) =
    let found = solved_of route steps model model_text status.Done written (λ e. cc e) solved in
    let is = claimed found.0 route steps found.2.0 written found.2.1 found.2.2 in
    let same = one_model model_text found.0 m found.1 spelled in
    let spells = subst (λ (x : ModelTree). SpellsAnswer (var_names x) (boolean_names x) written (record { route = route; claim = is.claim })) same is.spells in
    absurd ((is_exact (answer_grammar (var_names m) (boolean_names m))).never_both (exact_lines written) (record { route = route; claim = is.claim }) bad.0 bad.1 spells bad.2)
solved_is_accepted route steps model answer model_text written text s short solved (inr (fits, inr (near, inr (m, spelled, inr (a, reads, says))))) =
    let found = solved_of route steps model model_text status.Done written (λ e. cc e) solved in
    let is = claimed found.0 route steps found.2.0 written found.2.1 found.2.2 in
    let same = one_model model_text found.0 m found.1 spelled in
    let given : answers.Answer = record { route = route; claim = is.claim } in
    let spells = subst (λ (x : ModelTree). SpellsAnswer (var_names x) (boolean_names x) written given) same is.spells in
    let one = (is_exact (answer_grammar (var_names m) (boolean_names m))).one_value (exact_lines written) given a spells reads in
    let valid = subst (λ (x : ModelTree). first_error (check_groups x given) ≡ Ok tt) same is.right.valid in
    passing_is m (first_error (check_groups m a)) s text (subst (λ (x : answers.Answer). first_error (check_groups m x) ≡ Ok tt) one valid) says
