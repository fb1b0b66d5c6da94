use Rattle.std.proofs.Common.{rules, ◌≡◌, ◌∙◌, sym, None, Ok, Err}
use Rattle.model_tree.specs.Values.{model_tree}
use Rattle.lowest_terms.specs.declared.making.MakeError.TheVariants.{Test}
use Rattle.lowest_terms.specs.Made.{IsMade, IsBestOf, wide_place}
use Rattle.answer_tests.specs.Laws.{IsClaim}
use Rattle.gdp_solve.proofs.Claiming.{best_accepted, best_never_fails}
use Rattle.gdp_solve.proofs.logic.claim_best.Goals as goal

pub best_claim-requires-clause-numbers : goal.best_claim-requires-clause-numbers
best_claim-requires-clause-numbers c = c.requires.1.1.0.0.0.nums

pub best_claim-requires-clause-truths : goal.best_claim-requires-clause-truths
best_claim-requires-clause-truths c = c.requires.1.1.0.0.0.truths

pub returns-in-Ok-clause-accepted : goal.returns-in-Ok-clause-accepted
returns-in-Ok-clause-accepted c =
    let m = model_tree c.args.model.now in
    let is : IsClaim c.in-Ok.claim = search rules in
    let made : IsMade c.args.best.at (λ y r. IsBestOf m y c.args.best.truths c.args.proof r) (Ok c.in-Ok.claim) = search rules in
    best_accepted m c.args.best c.args.proof c.in-Ok.claim c.vars-vars.ensures.sound is c.requires made

pub unreachable-requires : goal.unreachable-requires
unreachable-requires c =
    let m = model_tree c.args.model.now in
    let made : IsMade c.args.best.at (λ y r. IsBestOf m y c.args.best.truths c.args.proof r) (Err (Test c.in-Err-Test.error)) = search rules in
    let none : wide_place c.in-Err-Test.error ≡ None = sym c.wide_place.ensures ∙ c.in-None.is in
    best_never_fails m c.args.best c.args.proof c.in-Err-Test.error c.vars-vars.ensures.sound c.requires made none
