use Rattle.std.proofs.Common.{sym, subst}
use Rattle.model_tree.specs.Values.{model_tree}
use Rattle.hybrid_rewrite.specs.Rewritten.{IsExactRewrite}
use Rattle.certificate_checker.specs.Answers.{IsProvedOf}
use Rattle.rewrite_checker.specs.Accepted.{IsProvedFor}
use Rattle.rewrite_checker.proofs.True.{proved_for}
use Rattle.answer_checker.specs.declared.errors.CheckError.TheVariants.{Test}
use Rattle.answer_checker.proofs.Grouped.{mapped_ok, on_ok}
use Rattle.answer_checker.proofs.checking.check_compiled.Goals as goal

pub returns-in-Ok-clause-proved : goal.returns-in-Ok-clause-proved
returns-in-Ok-clause-proved c =
    let m = model_tree c.args.model.now in
    let claim = c.args.claim.now in
    let milp = c.milp.result.now in
    let exact = subst (IsExactRewrite m) (sym c.milp.ensures) c.in-Ok.ensures.exact in
    mapped_ok Test c.check_by_program.result c.tested.result (IsProvedFor m claim) c.tested.ensures
    (on_ok c.check_by_program.result (IsProvedOf milp claim) (IsProvedFor m claim) (λ p. proved_for m milp c.vars-vars.ensures.sound exact claim p) c.check_by_program.ensures.sound)
