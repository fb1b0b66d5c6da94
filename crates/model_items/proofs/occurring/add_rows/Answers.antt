use Rattle.model_items.proofs.OccursLemmas.{row_added}
use Rattle.model_items.proofs.occurring.add_rows.Goals as goal

pub loop-row-preserved : goal.loop-row-preserved
loop-row-preserved c =
    row_added c.args.rows.now c.loop-row.row-index c.row-item.result c.args.ids.now c.loop-row.ids c.add_terms.new.ids
    c.loop-row-test.true c.row-item.is (rw c.terms.ensures.value at c.in_ok-add_terms.ensures) c.loop-row.invariant
