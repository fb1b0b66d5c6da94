use Rattle.std.proofs.Common.{rules, ◌≡◌, ◌∙◌, sym, None, Ok, Err}
use Rattle.model_tree.specs.Values.{model_tree}
use Rattle.lowest_terms.specs.declared.making.MakeError.TheVariants.{Test}
use Rattle.lowest_terms.specs.Made.{IsMade, IsEndlessOf, wide_place}
use Rattle.answer_tests.specs.Laws.{IsClaim}
use Rattle.rewrite_solving.specs.Cuts.{IsRayCutOf}
use Rattle.gdp_solve.proofs.Claiming.{endless_accepted, endless_never_fails}
use Rattle.gdp_solve.proofs.logic.claim_endless.Goals as goal

pub endless_claim-requires-clause-numbers : goal.endless_claim-requires-clause-numbers
endless_claim-requires-clause-numbers c = (c.requires.1.1.0 0).nums

pub endless_claim-requires-clause-truths : goal.endless_claim-requires-clause-truths
endless_claim-requires-clause-truths c = (c.requires.1.1.0 0).truths

pub returns-in-Ok-clause-accepted : goal.returns-in-Ok-clause-accepted
returns-in-Ok-clause-accepted c =
    let m = model_tree c.args.model.now in
    let is : IsClaim c.in-Ok.claim = search rules in
    let cut : IsRayCutOf m c.args.ray.now c.in_ok-cut.cut = search rules in
    let made : IsMade c.args.at.now (λ y r. IsEndlessOf m y c.args.truths c.in_ok-cut.cut r) (Ok c.in-Ok.claim) = search rules in
    endless_accepted m c.args.at.now c.args.truths c.args.ray.now c.in_ok-cut.cut c.in-Ok.claim c.vars-vars.ensures.sound is c.requires cut made

pub unreachable-requires : goal.unreachable-requires
unreachable-requires c =
    let m = model_tree c.args.model.now in
    let cut : IsRayCutOf m c.args.ray.now c.in_ok-cut.cut = search rules in
    let made : IsMade c.args.at.now (λ y r. IsEndlessOf m y c.args.truths c.in_ok-cut.cut r) (Err (Test c.in-Err-Test.error)) = search rules in
    let none : wide_place c.in-Err-Test.error ≡ None = sym c.wide_place.ensures ∙ c.in-None.is in
    endless_never_fails m c.args.at.now c.args.truths c.args.ray.now c.in_ok-cut.cut c.in-Err-Test.error c.vars-vars.ensures.sound c.requires cut made none
