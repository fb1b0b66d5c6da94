use Rattle.std.proofs.Common.{◌+◌, ◌&&◌, ◌∷◌, ◌++◌, ap, ◌∙◌, drop, append_assoc}
use Rattle.block_tree.specs.View.{block_of, disjunct_of, disjunction_of, disjuncts_of, disjunctions_of}
use Rattle.hull_rewrite.proofs.Laying.{disjuncts_level}
use Rattle.hull_rewrite.specs.Choices.{flags_below, flags_in, flags_within, is_xor}
use Rattle.milps.proofs.Lists.{drop_past}
use Rattle.hybrid_rewrite.proofs.Selected.{disjunctions_level}
use Rattle.hybrid_rewrite.proofs.Skipped.{flag_less, flags_after, flags_block}
use Rattle.hybrid_rewrite.proofs.flags.+skipping.Goals as goal

pub skip_block-returns : goal.skip_block-returns
skip_block-returns t c = λ h rest e.
    let k = rw c.disjunctions.ensures.tree at (c.skip_disjunctions.ensures h rest) in
    k (e ∙ ap (λ x. x ++ rest) (flags_block h (block_of c.args.block.now)))

pub skip_disjunctions-loop-disjunction-preserved : goal.skip_disjunctions-loop-disjunction-preserved
skip_disjunctions-loop-disjunction-preserved t c = λ h rest e.
    let d = disjunction_of c.disjunction-item.result in
    let i = c.loop-disjunction.disjunction-index in
    let ds = disjunctions_of (drop (i + 1) c.args.disjunctions.now) in
    let level = disjunctions_level c.args.disjunctions.now i c.disjunction-item.result c.loop-disjunction-test.true c.disjunction-item.is in
    let x = rw level at (c.loop-disjunction.invariant h rest e) in
    c.skip_disjunction-here.ensures h (flags_below h ds ++ rest) (x ∙ ap (λ k. (is_xor d.0.mode && h d.1) ∷ k) (append_assoc (flags_within h d.1) (flags_below h ds) rest))

pub skip_disjunctions-returns : goal.skip_disjunctions-returns
skip_disjunctions-returns t c = λ h rest e. rw (drop_past c.args.disjunctions.now c.loop-disjunction.disjunction-index c.loop-disjunction-test.false) at (c.loop-disjunction.invariant h rest e)

pub skip_disjunction-returns : goal.skip_disjunction-returns
skip_disjunction-returns t c = λ h rest e.
    let d = disjunction_of c.args.disjunction.now in
    let flags = c.args.flags.now in
    let f = is_xor d.0.mode && h d.1 in
    let ys = flags_within h d.1 ++ rest in
    let n = c.next_place.ensures (flag_less flags c.args.at f ys e) in
    let k = rw c.disjuncts.ensures.tree at (c.skip_disjuncts.ensures h rest) in
    k (ap (λ m. drop m flags) n ∙ flags_after flags c.args.at f ys e)

pub skip_disjuncts-loop-disjunct-preserved : goal.skip_disjuncts-loop-disjunct-preserved
skip_disjuncts-loop-disjunct-preserved t c = λ h rest e.
    let j = disjunct_of c.disjunct-item.result in
    let i = c.loop-disjunct.disjunct-index in
    let js = disjuncts_of (drop (i + 1) c.args.disjuncts.now) in
    let level = disjuncts_level c.args.disjuncts.now i c.disjunct-item.result c.loop-disjunct-test.true c.disjunct-item.is in
    let x = rw level at (c.loop-disjunct.invariant h rest e) in
    let k = rw c.block.ensures.tree at (c.skip_block-here.ensures h (flags_within h js ++ rest)) in
    k (x ∙ append_assoc (flags_in h j.1) (flags_within h js) rest)

pub skip_disjuncts-returns : goal.skip_disjuncts-returns
skip_disjuncts-returns t c = λ h rest e. rw (drop_past c.args.disjuncts.now c.loop-disjunct.disjunct-index c.loop-disjunct-test.false) at (c.loop-disjunct.invariant h rest e)
