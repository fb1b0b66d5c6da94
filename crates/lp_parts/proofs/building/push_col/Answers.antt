use Rattle.lp_parts.proofs.Grown.{col_fits, col_past}
use Rattle.lp_parts.proofs.building.push_col.Goals as goal

pub returns-in-Ok-clause-fits : goal.returns-in-Ok-clause-fits
returns-in-Ok-clause-fits c always = col_fits c.args.col c.args.milp.now c.in-Ok.field-0 c.push_col.new.self c.in-Ok.ensures

pub returns-in-Err-TooBig-clause-past : goal.returns-in-Err-TooBig-clause-past
returns-in-Err-TooBig-clause-past c always = col_past c.args.col c.args.milp.now c.push_col.new.self c.in-Err-TooBig.field-0 c.in-Err-TooBig.field-0-is c.in-Err-TooBig.ensures
