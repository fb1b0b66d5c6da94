use Rattle.std.proofs.Common.{◌≡◌, ◌+◌, length, drop, ap, add-one, drop-cons, refl, ◌∷◌}
use Rattle.block_tree.specs.Sound.{are_rows_below}
use Rattle.lp_rows.specs.Holding.{ids_below}
use Rattle.milps.proofs.Columned.{and_right}
use Rattle.bigm_rewrite.specs.Relaxed.{row_items, rows_items}
use Rattle.emission.proofs.Running.{following_more, following_as}
use Rattle.emission.specs.View.{state_of}
use Rattle.hull_rewrite.proofs.framing.emit_rows.Goals as goal

pub loop-row-preserved : goal.loop-row-preserved
loop-row-preserved c =
    let rows = c.args.rows.now in
    let i = c.loop-row.row-index in
    let r = c.row-item.result in
    let others = drop (i + 1) rows in
    let h = c.loop-row-test.true in
    let e = c.row-item.is in
    let level : drop i rows ≡ r ∷ others = rw (add-one, drop-cons rows i r, ← e) refl in
    let a = state_of c.loop-row.out in
    let z = state_of c.emit_row.new.out in
    let n = length c.args.frame.now in
    let s = rw level at c.loop-row.invariant.ids in
    record {
      empty = c.emit_row.ensures.empty;
      ids = and_right (ids_below n r.0.terms) (are_rows_below n others) s;
      following = λ g f s t o m p q.
          let w = following_as (λ k. rows_items g f s t rows) (state_of c.args.out.now) (λ k. rows_items g f s t (drop i rows)) (λ k. rows_items g f s t (r ∷ others)) a (ap (rows_items g f s t) level) (c.loop-row.invariant.following g f s t o m p q) in
          following_more (λ k. rows_items g f s t rows) (state_of c.args.out.now) (λ k. row_items g f s t r) (λ k. rows_items g f s t others) a z w (c.emit_row.ensures.runs g f s t o m p q);
    }
