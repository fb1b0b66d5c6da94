use Rattle.std.proofs.Common.{Err, inl, ap, subst, ◌∙◌, Result}
use Rattle.outcomes.specs.Calls.{OrMemory}
use Rattle.model_tree.specs.Values.{model_tree}
use Rattle.answer_tests.specs.Groups.{first_error, claim_groups}
use Rattle.answer_tests.specs.Laws.{IsTrueOf}
use Rattle.certificate_checker.specs.declared.refusal.Refusal.{Refusal}
use Rattle.certificate_checker.specs.declared.refusal.Refusal.TheVariants as refusal
use Rattle.certificate_checker.specs.Answers.{proof_groups, answer_groups}
use Rattle.certificate_checker.proofs.Accepted.{claim_fails, claim_passes}
use Rattle.certificate_checker.proofs.Shows.{where_ok}
use Rattle.logic_checker.specs.Models.{nodes_of, least_at}
use Rattle.logic_checker.proofs.True.{accepted_by_logic}
use Rattle.logic_checker.proofs.models.check_by_logic.Goals as goal

pub returns-in-Ok-clause-first : goal.returns-in-Ok-clause-first
returns-in-Ok-clause-first c =
    let m = model_tree c.args.model.now in
    let claim = c.args.claim.now in
    let gs = claim_groups m claim in
    let ns = proof_groups (nodes_of m) (least_at m claim) claim in
    let h = rw c.least.ensures at c.check_proof.ensures in
    subst (λ (v : Result (Unit {0}) Refusal). OrMemory refusal.Memory c.check_proof.result v) (claim_passes gs ns c.in-Ok.ensures) h

pub returns-in-Ok-clause-sound : goal.returns-in-Ok-clause-sound
returns-in-Ok-clause-sound c =
    let m = model_tree c.args.model.now in
    let claim = c.args.claim.now in
    let gs = claim_groups m claim in
    let ns = proof_groups (nodes_of m) (least_at m claim) claim in
    let h = rw c.least.ensures at c.check_proof.ensures in
    where_ok refusal.Memory c.check_proof.result (first_error (answer_groups m (nodes_of m) (least_at m claim) claim)) (IsTrueOf m claim)
    (subst (λ (v : Result (Unit {0}) Refusal). OrMemory refusal.Memory c.check_proof.result v) (claim_passes gs ns c.in-Ok.ensures) h)
    (λ k. accepted_by_logic m claim c.vars-vars.ensures.sound c.requires c.see_claim.ensures k)

pub returns-in-Err-clause-first : goal.returns-in-Err-clause-first
returns-in-Err-clause-first c =
    let m = model_tree c.args.model.now in
    let claim = c.args.claim.now in
    let gs = claim_groups m claim in
    let ns = proof_groups (nodes_of m) (least_at m claim) claim in
    inl (ap (λ (r : Refusal). Err r) c.refusal_of_claim.ensures ∙ claim_fails gs ns c.in-Err.error c.in-Err.ensures)
