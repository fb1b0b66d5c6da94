-- How the groups of an answer follow one another, and what they show.
use Rattle.std.proofs.Common.{◌≡◌, inl, inr, Bool, true, false, List, [], ◌∷◌, ◌++◌, map, Option, Some, None, Result, Ok, Err, refl, sym, ap, subst, ◌∙◌, if◌then◌else◌}
use Rattle.std.specs.Prelude.{OnOk}
use Rattle.std.proofs.lemmas.List.{map-append}
use Rattle.outcomes.specs.Calls.{OrMemory}
use Rattle.model_tree.specs.Sound.{IsSound}
use Rattle.model_tree.specs.Values.{ModelTree}
use Rattle.answers.specs.declared.claim.Claim.{Claim}
use Rattle.answers.specs.declared.claim.Claim.TheVariants.{Best, Empty, Endless}
use Rattle.hull_rewrite.specs.declared.choices.Choice.{Choice}
use Rattle.hybrid_rewrite.specs.declared.errors.CompileError.{CompileError}
use Rattle.hybrid_rewrite.specs.declared.errors.CompileError.TheVariants as compile
use Rattle.hybrid_rewrite.specs.Compiled.{CompiledValue, compiled}
use Rattle.hybrid_rewrite.specs.Chosen.{flagging}
use Rattle.answer_tests.specs.declared.errors.AnswerError.{AnswerError}
use Rattle.answer_tests.specs.Counted.{IsCounted}
use Rattle.answer_tests.specs.Groups.{first_error, claim_groups}
use Rattle.answer_tests.specs.Laws.{IsClaim, IsTrueOf}
use Rattle.answer_tests.proofs.Shown.{tests_show}
use Rattle.certificate_checker.specs.declared.refusal.Refusal.{Refusal}
use Rattle.certificate_checker.specs.declared.refusal.Refusal.TheVariants as refusal
use Rattle.certificate_checker.specs.Programs.{subject_of, least_for}
use Rattle.certificate_checker.specs.Answers.{claim_refusal, refused_by, proof_groups, answer_groups, best_of}
use Rattle.rewrite_checker.specs.Accepted.{IsProvedFor}
use Rattle.rewrite_checker.proofs.True.{true_of}
use Rattle.logic_checker.specs.Models.{nodes_of, least_at}
use Rattle.answer_checker.specs.declared.errors.CheckError.{CheckError}
use Rattle.answer_checker.specs.declared.errors.CheckError.TheVariants.{Test, Rewrite}
use Rattle.answer_checker.specs.Valid.{has_proof, compile_error, program_groups, compiled_groups, proof_groups_by, groups_by}

-- the first error of groups whose errors are said another way
pub first_mapped : {E F : Type 0} (f : E → F) (gs : List (Result (Unit {0}) E)) → first_error (map (refused_by f) gs) ≡ refused_by f (first_error gs)
first_mapped f [] = refl
first_mapped f (Ok u ∷ gs) = first_mapped f gs
first_mapped f (Err e ∷ gs) = refl

pub or_mapped : {E F : Type 0} (f : E → F) (memory : E) (r v : Result (Unit {0}) E) → OrMemory memory r v → OrMemory (f memory) (refused_by f r) (refused_by f v)
or_mapped f memory r v (inl e) = inl (ap (refused_by f) e)
or_mapped f memory r v (inr e) = inr (ap (refused_by f) e)

-- groups tested by a call, with its errors said another way
pub mapped_first : {E F : Type 0} (f : E → F) (memory : E) (r : Result (Unit {0}) E) (t : Result (Unit {0}) F) (gs : List (Result (Unit {0}) E)) → t ≡ refused_by f r → OrMemory memory r (first_error gs)
    → OrMemory (f memory) t (first_error (map (refused_by f) gs))
mapped_first f memory r t gs e o =
    subst (λ x. OrMemory (f memory) x (first_error (map (refused_by f) gs))) (sym e)
    (subst (λ v. OrMemory (f memory) (refused_by f r) v) (sym (first_mapped f gs)) (or_mapped f memory r (first_error gs) o))

pub mapped_ok : {E F : Type 0} (f : E → F) (r : Result (Unit {0}) E) (t : Result (Unit {0}) F) (X : Type 0) → t ≡ refused_by f r → OnOk r X → OnOk t X
mapped_ok f (Ok u) t X e o = subst (λ x. OnOk x X) (sym e) o
mapped_ok f (Err error) t X e o = subst (λ x. OnOk x X) (sym e) tt

pub on_ok : {E : Type 0} (r : Result (Unit {0}) E) (X Y : Type 0) → (X → Y) → OnOk r X → OnOk r Y
on_ok (Ok u) X Y f o = f o
on_ok (Err e) X Y f o = tt

-- the groups of a claim over the model itself
pub itself : (m : ModelTree) (claim : Claim) → map (refused_by Test) (answer_groups m (nodes_of m) (least_at m claim) claim) ≡ groups_by m None claim
itself m claim = map-append (refused_by Test) (map (refused_by claim_refusal) (claim_groups m claim)) (proof_groups (nodes_of m) (least_at m claim) claim)

-- the claim's own groups fail
pub claim_fails : (gs : List (Result (Unit {0}) AnswerError)) (ns : List (Result (Unit {0}) CheckError)) (e : AnswerError) → Err e ≡ first_error gs
    → Err (Test (claim_refusal e)) ≡ first_error (map (refused_by Test) (map (refused_by claim_refusal) gs) ++ ns)
claim_fails [] ns e h = absurd cc
claim_fails (Ok u ∷ gs) ns e h = claim_fails gs ns e h
claim_fails (Err f ∷ gs) ns e h = let k : e ≡ f = cc in ap (λ x. Err (Test (claim_refusal x))) k

-- they pass, and so the others decide
pub claim_passes : (gs : List (Result (Unit {0}) AnswerError)) (ns : List (Result (Unit {0}) CheckError)) → Ok tt ≡ first_error gs
    → first_error ns ≡ first_error (map (refused_by Test) (map (refused_by claim_refusal) gs) ++ ns)
claim_passes [] ns h = refl
claim_passes (Ok u ∷ gs) ns h = claim_passes gs ns h
claim_passes (Err f ∷ gs) ns h = absurd cc

-- what the claim's own tests and its proof show
pub shown_true : (m : ModelTree) (claim : Claim) → IsSound m → IsCounted m claim → IsClaim claim → Ok tt ≡ first_error (claim_groups m claim) → IsProvedFor m claim → IsTrueOf m claim
shown_true m claim sound counted is h p = true_of m claim (tests_show m claim sound counted is (sym h)) p
