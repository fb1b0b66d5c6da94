use Rattle.std.proofs.Common.{rules, ◌≡◌, ◌∙◌, sym, None, Ok, Err}
use Rattle.model_tree.specs.Values.{model_tree}
use Rattle.milp_forces.proofs.Within.{within_fit}
use Rattle.lowest_terms.specs.declared.making.MakeError.TheVariants.{Test}
use Rattle.lowest_terms.specs.Made.{IsMade, IsBestOf, wide_place}
use Rattle.answer_tests.specs.Laws.{IsClaim}
use Rattle.rewrite_solving.specs.Cuts.{IsCutOf}
use Rattle.rewrite_solving.proofs.Making.{best_accepted, best_only_wide}
use Rattle.rewrite_solving.proofs.solving.claim_best.Goals as goal

pub returns-in-Ok-clause-accepted : goal.returns-in-Ok-clause-accepted
returns-in-Ok-clause-accepted c =
    let m = model_tree c.args.model.now in
    let cut : IsCutOf m c.args.best.now.at c.in_ok-at.at c.in_ok-at.truths = search rules in
    let made : IsMade c.in_ok-at.at (λ y r. IsBestOf m y c.in_ok-at.truths c.args.proof r) (Ok c.in-Ok.claim) = search rules in
    let is : IsClaim c.in-Ok.claim = search rules in
    best_accepted m c.args.milp.now c.args.best.now c.args.proof c.in_ok-at.at c.in_ok-at.truths c.in-Ok.claim c.vars-vars.ensures.sound (within_fit c.args.milp.now c.cols-cols.ensures.within) c.requires.rewrite c.requires.right cut made is

pub unreachable-requires : goal.unreachable-requires
unreachable-requires c =
    let m = model_tree c.args.model.now in
    let cut : IsCutOf m c.args.best.now.at c.in_ok-at.at c.in_ok-at.truths = search rules in
    let made : IsMade c.in_ok-at.at (λ y r. IsBestOf m y c.in_ok-at.truths c.args.proof r) (Err (Test c.in-Err-Test.error)) = search rules in
    let none : wide_place c.in-Err-Test.error ≡ None = sym c.wide_place.ensures ∙ c.in-None.is in
    best_only_wide m c.args.milp.now c.args.best.now c.args.proof c.in_ok-at.at c.in_ok-at.truths c.in-Err-Test.error c.vars-vars.ensures.sound c.requires.rewrite c.requires.right cut made none
