use Rattle.std.proofs.Common.{Err, Some, Result, inl, ap, subst, ◌∙◌}
use Rattle.outcomes.specs.Calls.{OrMemory}
use Rattle.model_tree.specs.Values.{model_tree}
use Rattle.hybrid_rewrite.specs.Compiled.{compiled}
use Rattle.hybrid_rewrite.specs.Chosen.{flagging}
use Rattle.answer_tests.specs.Groups.{claim_groups}
use Rattle.answer_tests.specs.Laws.{IsTrueOf}
use Rattle.certificate_checker.specs.declared.refusal.Refusal.TheVariants as refusal
use Rattle.rewrite_checker.specs.Accepted.{IsProvedFor}
use Rattle.answer_checker.specs.declared.errors.CheckError.{CheckError}
use Rattle.answer_checker.specs.declared.errors.CheckError.TheVariants.{Test}
use Rattle.answer_checker.specs.Valid.{compiled_groups}
use Rattle.answer_checker.proofs.Grouped.{claim_fails, claim_passes, on_ok, shown_true}
use Rattle.answer_checker.proofs.checking.check_rewritten.Goals as goal

pub returns-in-Ok-clause-first : goal.returns-in-Ok-clause-first
returns-in-Ok-clause-first c =
    let m = model_tree c.args.model.now in
    let claim = c.args.claim.now in
    let ns = compiled_groups claim (compiled m (flagging c.args.choice m)) in
    subst (λ (v : Result (Unit {0}) CheckError). OrMemory (Test refusal.Memory) c.check_compiled.result v) (claim_passes (claim_groups m claim) ns c.in-Ok.ensures) c.check_compiled.ensures.first

pub returns-in-Ok-clause-sound : goal.returns-in-Ok-clause-sound
returns-in-Ok-clause-sound c =
    let m = model_tree c.args.model.now in
    let claim = c.args.claim.now in
    on_ok c.check_compiled.result (IsProvedFor m claim) (IsTrueOf m claim) (λ p. shown_true m claim c.vars-vars.ensures.sound c.requires c.see_claim.ensures c.in-Ok.ensures p) c.check_compiled.ensures.proved

pub returns-in-Err-clause-first : goal.returns-in-Err-clause-first
returns-in-Err-clause-first c =
    let m = model_tree c.args.model.now in
    let claim = c.args.claim.now in
    let ns = compiled_groups claim (compiled m (flagging c.args.choice m)) in
    inl (ap (λ r. Err (Test r)) c.refusal_of_claim.ensures ∙ claim_fails (claim_groups m claim) ns c.in-Err.error c.in-Err.ensures)
