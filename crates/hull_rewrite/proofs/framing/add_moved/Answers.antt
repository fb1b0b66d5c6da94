use Rattle.std.proofs.Common.{◌+◌, ℕ, ℤ, pos, drop, ap, ◌∙◌, slice_index_or}
use Rattle.lp_rows.proofs.Steps.{from_place}
use Rattle.bigm_rewrite.specs.Answers.{columns}
use Rattle.bigm_rewrite.specs.Relaxed.{moved}
use Rattle.emission.specs.Sums.{column}
use Rattle.emission.specs.View.{status_of}
use Rattle.emission.proofs.Adding.{adding_done, adding_more}
use Rattle.milps.proofs.Lists.{drop_past}
use Rattle.hull_rewrite.proofs.Framed.{moved_level, moved_none}
use Rattle.hull_rewrite.proofs.framing.add_moved.Goals as goal

pub loop-term-preserved : goal.loop-term-preserved
loop-term-preserved c =
    let ts = c.args.terms.now in
    let i = c.loop-term.term-index in
    let t : ℕ × ℤ = slice_index_or ts i (0, pos 0) in
    let f = columns c.args.frame.now in
    let others = drop (i + 1) ts in
    let e = ap (moved f) (from_place ts i c.loop-term-test.true) ∙ moved_level f t others in
    let w = rw e at c.loop-term.invariant.adding in
    let a = rw c.column_of.ensures at c.add_term.ensures.adds in
    record {
      adding = adding_more (moved f ts) (column t.1 (f t.0)) (moved f others) (status_of c.args.out.now) (status_of c.loop-term.out) (status_of c.add_term.new.out) w a;
      same = c.add_term.ensures.same ∙ c.loop-term.invariant.same;
    }

pub returns-clause-adds : goal.returns-clause-adds
returns-clause-adds c =
    let f = columns c.args.frame.now in
    let e = ap (moved f) (drop_past c.args.terms.now c.loop-term.term-index c.loop-term-test.false) ∙ moved_none f in
    adding_done (moved f c.args.terms.now) (status_of c.args.out.now) (status_of c.loop-term.out) (rw e at c.loop-term.invariant.adding)
