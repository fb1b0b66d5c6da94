use Rattle.std.proofs.Common.{◌+◌, arith, false, slice_index_or, drop, ap, ◌∙◌}
use Rattle.std.specs.Int.{from_bool}
use Rattle.std.proofs.lemmas.Grind.{common_steps}
use Rattle.propositions.proofs.Layers.{trees_at, count_more, adds_one_at_most, added}
use Rattle.propositions.specs.Truth.{truth_of, truths_of, true_count}
use Rattle.propositions.specs.View.{prop_tree, prop_trees}
use Rattle.propositions.proofs.truths.+truth.Goals as goal

pub true_count-loop-prop-preserved : goal.true_count-loop-prop-preserved
true_count-loop-prop-preserved t c =
    let at = trees_at c.args.props.now c.loop-prop.prop-index c.prop-item.result c.loop-prop-test.true c.prop-item.is in
    let here = truth_of (prop_tree c.prop-item.result) (λ k. slice_index_or c.args.truths.now k false) in
    let rest = truths_of (prop_trees (drop (c.loop-prop.prop-index + 1) c.args.props.now)) (λ k. slice_index_or c.args.truths.now k false) in
    record {
      range = grind (arith, common_steps);
      few = omega (arith, adds_one_at_most c.truth.result, c.from-count.ensures, c.loop-prop.invariant.few);
      rest =
          added _ _ _ _ _ _ (c.from-count.ensures ∙ ap from_bool c.truth.ensures)
          (ap (λ ps. true_count (truths_of ps (λ k. slice_index_or c.args.truths.now k false))) at ∙ count_more (λ x. x) here rest)
          c.loop-prop.invariant.rest;
    }
