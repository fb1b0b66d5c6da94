use Rattle.std.proofs.Common.{◌∙◌, ◌+◌, ap, sym, arith}
use Rattle.model_builder.specs.Standing.{stands_for}
use Rattle.model_maker.specs.Draws.{next, draw}
use Rattle.model_maker.proofs.Pairs.{IsPair, real_accepted, whole_accepted, pair_added, two_on}
use Rattle.model_maker.proofs.variables.add_vars.Goals as goal

pub add_var-requires : goal.add_var-requires
add_var-requires c =
    real_accepted c.args.draws.now c.loop-i.i _ _ (5 + c.draw-x_high.result) c.loop-i.invariant.1 (omega (arith, c.requires.size, c.loop-i-test.true))
    (c.as_str.ensures.value ∙ c.in_ok-x.ensures) (omega (arith, c.draw-x_high.ensures.below))

pub add_var-requires-in-loop-i : goal.add_var-requires-in-loop-i
add_var-requires-in-loop-i c =
    whole_accepted c.args.draws.now c.loop-i.i (stands_for c.loop-i.builder) (stands_for c.add_var.new.builder) c.as_str.result.now c.as_str-in-loop-i.result.now (5 + c.draw-x_high.result) (5 + c.draw-n_high.result)
    (record {
      before = c.loop-i.invariant.1;
      below = omega (arith, c.requires.size, c.loop-i-test.true);
      x_is = c.as_str.ensures.value ∙ c.in_ok-x.ensures;
      n_is = c.as_str-in-loop-i.ensures.value ∙ c.in_ok-n.ensures;
      x_small = omega (arith, c.draw-x_high.ensures.below);
      n_small = omega (arith, c.draw-n_high.ensures.below);
      between = c.in_ok-add_var.ensures;
    })

pub loop-i-preserved : goal.loop-i-preserved
loop-i-preserved c =
    let p : IsPair c.args.draws.now c.loop-i.i (stands_for c.loop-i.builder) (stands_for c.add_var.new.builder) c.as_str.result.now c.as_str-in-loop-i.result.now (5 + c.draw-x_high.result) (5 + c.draw-n_high.result) =
    record {
      before = c.loop-i.invariant.1;
      below = omega (arith, c.requires.size, c.loop-i-test.true);
      x_is = c.as_str.ensures.value ∙ c.in_ok-x.ensures;
      n_is = c.as_str-in-loop-i.ensures.value ∙ c.in_ok-n.ensures;
      x_small = omega (arith, c.draw-x_high.ensures.below);
      n_small = omega (arith, c.draw-n_high.ensures.below);
      between = c.in_ok-add_var.ensures;
    } in
    let first = c.draw-x_high.ensures.next ∙ ap next c.loop-i.invariant.0 in (
      c.draw-n_high.ensures.next ∙ ap next first ∙ sym (two_on c.args.draws.now c.loop-i.i),
      pair_added c.args.draws.now c.loop-i.i _ _ _ _ _ _ _ p (ap (λ s. 5 + s) (c.draw-x_high.ensures.drawn ∙ ap (λ s. draw s 6) c.loop-i.invariant.0))
          (ap (λ s. 5 + s) (c.draw-n_high.ensures.drawn ∙ ap (λ s. draw s 6) first)) c.in_ok-add_var-2.ensures,
    )
