use Rattle.milp_forces.proofs.Within.{within_fit}
use Rattle.answer_tests.specs.Groups.{first_error}
use Rattle.certificate_checker.specs.declared.refusal.Refusal.TheVariants as refusal
use Rattle.certificate_checker.specs.Programs.{subject_of, least_for}
use Rattle.certificate_checker.specs.Answers.{proof_groups, best_of, IsProvedOf}
use Rattle.certificate_checker.proofs.Shows.{where_ok}
use Rattle.certificate_checker.proofs.Accepted.{proof_shows}
use Rattle.certificate_checker.proofs.proofs_of.check_by_program.Goals as goal

pub returns-clause-sound : goal.returns-clause-sound
returns-clause-sound c =
    let milp = c.args.milp.now in
    let claim = c.args.claim.now in
    where_ok refusal.Memory c.check_proof.result (first_error (proof_groups (subject_of milp) (least_for milp (best_of claim)) claim)) (IsProvedOf milp claim)
    (rw (c.least.ensures.least, c.best.ensures) at c.check_proof.ensures)
    (λ h. proof_shows milp claim (within_fit milp c.cols-cols.ensures.within) c.see_claim.ensures h)
