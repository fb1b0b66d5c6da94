use Rattle.hull_rewrite.proofs.Framed.{moved_none}
use Rattle.std.proofs.Common.{◌+◌, pos, neg_ℤ, ap, ◌∙◌, drop, get_or}
use Rattle.milps.proofs.Gathered.{within}
use Rattle.bound_propagation.specs.Boxes.{turned}
use Rattle.bigm_rewrite.specs.Relaxed.{moved}
use Rattle.emission.specs.Sums.{column}
use Rattle.emission.specs.View.{status_of}
use Rattle.hybrid_rewrite.specs.Rewritten.{same_place}
use Rattle.milps.proofs.Lists.{drop_level, drop_past}
use Rattle.hybrid_rewrite.proofs.RowItems.{turned_level}
use Rattle.emission.proofs.Adding.{adding_more, adding_done}
use Rattle.hybrid_rewrite.proofs.goals.take_terms.Goals as goal

pub loop-term-preserved : goal.loop-term-preserved
loop-term-preserved c =
    let ts = c.args.terms.now in
    let i = c.loop-term.term-index in
    let t = get_or ts i (0, pos 0) in
    let e = ap (λ xs. moved same_place (turned xs)) (drop_level ts i t c.loop-term-test.true (within ts i (0, pos 0) c.loop-term-test.true)) ∙ turned_level same_place t (drop (i + 1) ts) in
    let w = rw e at c.loop-term.invariant.adding in
    record {
      adding = adding_more (moved same_place (turned ts)) (column (neg_ℤ t.1) t.0) (moved same_place (turned (drop (i + 1) ts))) (status_of c.args.out.now) (status_of c.loop-term.out) (status_of c.take_term.new.out) w c.take_term.ensures.adds;
      same = c.take_term.ensures.same ∙ c.loop-term.invariant.same;
    }

pub returns-clause-adds : goal.returns-clause-adds
returns-clause-adds c =
    let e = ap (λ xs. moved same_place (turned xs)) (drop_past c.args.terms.now c.loop-term.term-index c.loop-term-test.false) ∙ moved_none same_place in
    adding_done (moved same_place (turned c.args.terms.now)) (status_of c.args.out.now) (status_of c.loop-term.out) (rw e at c.loop-term.invariant.adding)
