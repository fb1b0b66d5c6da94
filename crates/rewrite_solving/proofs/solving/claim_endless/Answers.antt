use Rattle.std.proofs.Common.{rules, ◌≡◌, ◌<ℤ◌, pos, ◌∙◌, sym, None, Ok, Err, arith}
use Rattle.std.proofs.lemmas.Int.{ints}
use Rattle.model_tree.specs.Values.{model_tree}
use Rattle.milp_forces.proofs.Within.{within_fit}
use Rattle.lowest_terms.specs.declared.making.MakeError.TheVariants.{Test}
use Rattle.lowest_terms.specs.Made.{IsMade, IsEndlessOf, wide_place}
use Rattle.answer_tests.specs.Laws.{IsClaim}
use Rattle.rewrite_solving.specs.Cuts.{IsCutOf, IsRayCutOf}
use Rattle.rewrite_solving.proofs.Making.{endless_accepted, endless_only_wide}
use Rattle.rewrite_solving.proofs.solving.claim_endless.Goals as goal

pub returns-in-Ok-clause-accepted : goal.returns-in-Ok-clause-accepted
returns-in-Ok-clause-accepted c =
    let m = model_tree c.args.model.now in
    let cut : IsCutOf m c.args.from.now c.in_ok-at.at c.in_ok-at.truths = search rules in
    let ray : IsRayCutOf m c.args.ray.now c.in_ok-ray.ray = search rules in
    let made : IsMade c.in_ok-at.at (λ y r. IsEndlessOf m y c.in_ok-at.truths c.in_ok-ray.ray r) (Ok c.in-Ok.claim) = search rules in
    let is : IsClaim c.in-Ok.claim = search rules in
    endless_accepted m c.args.milp.now c.args.from.now c.in_ok-at.at c.in_ok-at.truths c.args.ray.now c.in_ok-ray.ray c.in-Ok.claim c.vars-vars.ensures.sound (within_fit c.args.milp.now c.cols-cols.ensures.within) c.requires.rewrite cut ray made is

pub unreachable-requires : goal.unreachable-requires
unreachable-requires c =
    let m = model_tree c.args.model.now in
    let cut : IsCutOf m c.args.from.now c.in_ok-at.at c.in_ok-at.truths = search rules in
    let ray : IsRayCutOf m c.args.ray.now c.in_ok-ray.ray = search rules in
    let made : IsMade c.in_ok-at.at (λ y r. IsEndlessOf m y c.in_ok-at.truths c.in_ok-ray.ray r) (Err (Test c.in-Err-Test.error)) = search rules in
    let none : wide_place c.in-Err-Test.error ≡ None = sym c.wide_place.ensures ∙ c.in-None.is in
    let l : pos 0 <ℤ c.args.from.now.over = let p = c.over-over.ensures.positive in omega (arith, ints, p) in
    endless_only_wide m c.args.milp.now c.args.from.now c.in_ok-at.at c.in_ok-at.truths c.args.ray.now c.in_ok-ray.ray c.in-Err-Test.error c.vars-vars.ensures.sound c.requires.rewrite l c.requires.endless cut ray made none
