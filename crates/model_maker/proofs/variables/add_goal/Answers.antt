use Rattle.std.proofs.Common.{◌≡◌, ◌∙◌, ◌+◌, ℕ, ap, sym, arith}
use Rattle.model_builder.specs.Standing.{stands_for}
use Rattle.model_maker.specs.Draws.{next, draw}
use Rattle.model_maker.specs.Generated.{goal_terms}
use Rattle.model_maker.specs.Steps.{as_fractions}
use Rattle.model_maker.proofs.Goals.{goal_accepted, goal_added, terms_added}
use Rattle.model_maker.proofs.Pairs.{two_on}
use Rattle.model_maker.proofs.Rows.{if_ok}
use Rattle.model_maker.proofs.variables.add_goal.Goals as goal

pub set_goal-requires : goal.set_goal-requires
set_goal-requires c =
    let last : c.loop-i.i ≡ c.args.size = omega (arith, c.loop-i-test.false, c.loop-i.auto.i-end) in
    goal_accepted (stands_for c.args.builder.now) c.args.draws.now c.args.size c.as_slice.result.now c.requires.bare
    (c.as_slice.ensures.value ∙ c.loop-i.invariant.1 ∙ ap (λ (n : ℕ). as_fractions (goal_terms c.args.draws.now n)) last)

pub loop-i-preserved : goal.loop-i-preserved
loop-i-preserved c =
    let first = c.draw.ensures.next ∙ ap next c.loop-i.invariant.0 in (
      c.draw-in-loop-i.ensures.next ∙ ap next first ∙ sym (two_on c.args.draws.now c.loop-i.i),
      terms_added c.args.draws.now c.loop-i.i (1 + c.draw.result) (1 + c.draw-in-loop-i.result) c.loop-i.terms.items c.push.new.self.items c.push-in-loop-i.new.self.items c.loop-i.invariant.1
          (rw (← c.whole.ensures) c.in_ok-push.ensures.items) (rw (← c.whole-in-loop-i.ensures) c.in_ok-push-2.ensures.items)
          (ap (λ n. 1 + n) (c.draw.ensures.drawn ∙ ap (λ s. draw s 5) c.loop-i.invariant.0))
          (ap (λ n. 1 + n) (c.draw-in-loop-i.ensures.drawn ∙ ap (λ s. draw s 5) first)),
    )

pub returns-clause-added : goal.returns-clause-added
returns-clause-added c =
    let last : c.loop-i.i ≡ c.args.size = omega (arith, c.loop-i-test.false, c.loop-i.auto.i-end) in
    if_ok c.set_goal.result _ _
    (λ e. e ∙ goal_added (stands_for c.args.builder.now) c.args.draws.now c.args.size c.as_slice.result.now c.requires.bare
    (c.as_slice.ensures.value ∙ c.loop-i.invariant.1 ∙ ap (λ (n : ℕ). as_fractions (goal_terms c.args.draws.now n)) last))
    c.set_goal.ensures
