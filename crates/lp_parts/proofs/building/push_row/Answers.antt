use Rattle.std.proofs.Common.{to_z-of_z}
use Rattle.lp_rows.specs.Rows.{RowValue}
use Rattle.lp_parts.proofs.Grown.{few_terms, stored_summable, row_fits, row_past, row_stored}
use Rattle.lp_parts.proofs.building.push_row.Goals as goal

pub push_row-requires-clause-few : goal.push_row-requires-clause-few
push_row-requires-clause-few c = few_terms c.args.milp.now c.args.terms.now c.requires.within c.requires.stored.terms

pub push_row-requires-clause-summable : goal.push_row-requires-clause-summable
push_row-requires-clause-summable c = stored_summable c.args.terms.now c.requires.stored.terms.small

pub returns-in-Ok-clause-fits : goal.returns-in-Ok-clause-fits
returns-in-Ok-clause-fits c always =
    let row : RowValue = record { terms = c.args.terms.now; rel = c.args.rel; right = c.args.right } in
    row_fits row c.args.milp.now c.push_row.new.self c.in-Ok.field-0 c.requires.stored c.requires.within (simp (to_z-of_z c.ranges.right) at c.in-Ok.ensures)

pub returns-in-Err-TooBig-clause-past : goal.returns-in-Err-TooBig-clause-past
returns-in-Err-TooBig-clause-past c always =
    let row : RowValue = record { terms = c.args.terms.now; rel = c.args.rel; right = c.args.right } in
    row_past row c.args.milp.now c.push_row.new.self c.in-Err-TooBig.field-0 c.in-Err-TooBig.field-0-is c.requires.stored (simp (to_z-of_z c.ranges.right) at c.in-Err-TooBig.ensures)

pub unreachable-requires : goal.unreachable-requires
unreachable-requires c =
    let row : RowValue = record { terms = c.args.terms.now; rel = c.args.rel; right = c.args.right } in
    row_stored row c.args.milp.now c.push_row.new.self c.in-Err-Coefficient.field-0 c.in-Err-Coefficient.field-0-is c.requires.stored (simp (to_z-of_z c.ranges.right) at c.in-Err-Coefficient.ensures)
