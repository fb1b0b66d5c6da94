use Rattle.std.proofs.Common.{subst}
use Rattle.outcomes.specs.Calls.{OrMemory}
use Rattle.model_tree.specs.Values.{model_tree}
use Rattle.answer_tests.specs.Groups.{first_error}
use Rattle.answer_tests.specs.Laws.{IsTrueOf}
use Rattle.certificate_checker.specs.declared.refusal.Refusal.TheVariants as refusal
use Rattle.certificate_checker.specs.Answers.{answer_groups}
use Rattle.logic_checker.specs.Models.{nodes_of, least_at}
use Rattle.answer_checker.specs.declared.errors.CheckError.TheVariants.{Test}
use Rattle.answer_checker.proofs.Grouped.{itself, mapped_first, mapped_ok}
use Rattle.answer_checker.proofs.checking.check_itself.Goals as goal

pub returns-clause-first : goal.returns-clause-first
returns-clause-first c =
    let m = model_tree c.args.model.now in
    let claim = c.args.claim.now in
    subst (λ gs. OrMemory (Test refusal.Memory) c.tested.result (first_error gs)) (itself m claim)
    (mapped_first Test refusal.Memory c.check_by_logic.result c.tested.result (answer_groups m (nodes_of m) (least_at m claim) claim) c.tested.ensures c.check_by_logic.ensures.first)

pub returns-clause-sound : goal.returns-clause-sound
returns-clause-sound c =
    mapped_ok Test c.check_by_logic.result c.tested.result (IsTrueOf (model_tree c.args.model.now) c.args.claim.now) c.tested.ensures c.check_by_logic.ensures.sound
