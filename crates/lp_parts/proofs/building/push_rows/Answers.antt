use Rattle.std.proofs.Common.{◌∙◌}
use Rattle.std.proofs.lemmas.Int.{to_z-of_z}
use Rattle.std.specs.Int.{w128}
use Rattle.lp_parts.proofs.Grown.{rows_past, row_read}
use Rattle.lp_parts.proofs.building.push_rows.Goals as goal

pub returns-then-not-branch : goal.returns-then-not-branch
returns-then-not-branch c =
    rows_past c.rows.milp c.args.milp.now c.args.rows.now c.rows.row-index c.row-item.result _ c.rows-test.true c.row-item.is c.rows.invariant.so_far
    (row_read c.row-item.result _ _ _ c.terms.ensures.value c.rel.ensures (to_z-of_z w128 c.right.result (record { sfits = c.right.type_inv }) ∙ c.right.ensures))
    (c.in_ok-push_row.ensures.past c.if-not-branch.true)
