use Rattle.std.proofs.Common.{◌≡◌, rules, true, false, slice_index_or, sym, ◌∙◌, length}
use Rattle.point_tests.proofs.TestsLemmas.{props_at, props_sound_at, not_refused}
use Rattle.point_tests.proofs.satisfying.props_verdict.Goals as goal

pub loop-prop-preserved : goal.loop-prop-preserved
loop-prop-preserved c =
    let on : c.truth.result ≡ true = not_refused c.truth.result (search rules) in
    record {
      below = props_sound_at c.args.props.now c.loop-prop.prop-index c.prop-item.result (length c.args.truths.now) c.loop-prop-test.true c.prop-item.is c.loop-prop.invariant.below;
      rest =
          props_at c.args.props.now c.loop-prop.prop-index c.prop-item.result (λ k. slice_index_or c.args.truths.now k false) c.loop-prop-test.true c.prop-item.is (sym c.truth.ensures ∙ on)
          ∙ c.loop-prop.invariant.rest;
    }
