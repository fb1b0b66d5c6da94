use Rattle.std.proofs.Common.{◌+◌, arith, slice_index_or, drop, ap, sym, ◌∙◌}
use Rattle.std.specs.Int.{from_bool}
use Rattle.std.proofs.lemmas.Grind.{common_steps}
use Rattle.gdp_tables.specs.declared.tri.Tri.TheVariants.{No}
use Rattle.propositions.proofs.Layers.{trees_at, count_more, added, same_counts, no_more_than_one, exactly_tree, at_least_tree, at_most_tree}
use Rattle.propositions.specs.Reading.{tri_of, tris_of, list_tri, yes_count, open_count, is_yes, is_open, exactly_of, at_least_of, at_most_of}
use Rattle.propositions.specs.Tree.{exactly, at_least, at_most}
use Rattle.propositions.specs.View.{prop_tree, prop_trees}
use Rattle.propositions.proofs.reading.+reading.Goals as goal

pub count_known-loop-prop-preserved : goal.count_known-loop-prop-preserved
count_known-loop-prop-preserved t c =
    let at = trees_at c.args.props.now c.loop-prop.prop-index c.prop-item.result c.loop-prop-test.true c.prop-item.is in
    let here = tri_of (prop_tree c.prop-item.result) (λ k. slice_index_or c.args.truths.now k No) in
    let rest = tris_of (prop_trees (drop (c.loop-prop.prop-index + 1) c.args.props.now)) (λ k. slice_index_or c.args.truths.now k No) in
    record {
      range = grind (arith, common_steps);
      few =
          no_more_than_one c.loop-prop.yes c.loop-prop.undecided _ _ _ c.read-reading.result (c.from-yes.ensures ∙ ap from_bool c.is_yes.ensures)
          (c.from-undecided.ensures ∙ ap from_bool c.is_open.ensures) c.loop-prop.invariant.few;
      yes =
          added _ _ _ _ _ _ (c.from-yes.ensures ∙ ap from_bool (c.is_yes.ensures ∙ ap is_yes c.read-reading.ensures))
          (ap (λ ps. yes_count (tris_of ps (λ k. slice_index_or c.args.truths.now k No))) at ∙ count_more is_yes here rest)
          c.loop-prop.invariant.yes;
      undecided =
          added _ _ _ _ _ _ (c.from-undecided.ensures ∙ ap from_bool (c.is_open.ensures ∙ ap is_open c.read-reading.ensures))
          (ap (λ ps. open_count (tris_of ps (λ k. slice_index_or c.args.truths.now k No))) at ∙ count_more is_open here rest)
          c.loop-prop.invariant.undecided;
    }

pub exactly-returns : goal.exactly-returns
exactly-returns t c = c.exactly_of.ensures ∙ same_counts (exactly_of c.args.number) c.count_known-counts.ensures.yes c.count_known-counts.ensures.undecided

pub at_least-returns : goal.at_least-returns
at_least-returns t c = c.at_least_of.ensures ∙ same_counts (at_least_of c.args.number) c.count_known-counts.ensures.yes c.count_known-counts.ensures.undecided

pub at_most-returns : goal.at_most-returns
at_most-returns t c = c.at_most_of.ensures ∙ same_counts (at_most_of c.args.number) c.count_known-counts.ensures.yes c.count_known-counts.ensures.undecided

pub read-returns-in-Exactly : goal.read-returns-in-Exactly
read-returns-in-Exactly t c =
    c.exactly.ensures ∙ ap (λ items. list_tri (exactly c.in-Exactly.number) (tris_of (prop_trees items) (λ k. slice_index_or c.args.truths.now k No))) c.deref-in-Exactly.ensures.value
    ∙ sym (ap (λ p. tri_of p (λ k. slice_index_or c.args.truths.now k No)) (ap prop_tree c.in-Exactly.is ∙ exactly_tree c.in-Exactly.number c.in-Exactly.props))

pub read-returns-in-AtLeast : goal.read-returns-in-AtLeast
read-returns-in-AtLeast t c =
    c.at_least.ensures ∙ ap (λ items. list_tri (at_least c.in-AtLeast.number) (tris_of (prop_trees items) (λ k. slice_index_or c.args.truths.now k No))) c.deref-in-AtLeast.ensures.value
    ∙ sym (ap (λ p. tri_of p (λ k. slice_index_or c.args.truths.now k No)) (ap prop_tree c.in-AtLeast.is ∙ at_least_tree c.in-AtLeast.number c.in-AtLeast.props))

pub read-returns-in-AtMost : goal.read-returns-in-AtMost
read-returns-in-AtMost t c =
    c.at_most.ensures ∙ ap (λ items. list_tri (at_most c.in-AtMost.number) (tris_of (prop_trees items) (λ k. slice_index_or c.args.truths.now k No))) c.deref-in-AtMost.ensures.value
    ∙ sym (ap (λ p. tri_of p (λ k. slice_index_or c.args.truths.now k No)) (ap prop_tree c.in-AtMost.is ∙ at_most_tree c.in-AtMost.number c.in-AtMost.props))
