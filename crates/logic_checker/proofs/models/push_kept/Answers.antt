use Rattle.std.proofs.Common.{◌+◌, ap}
use Rattle.logic_checker.proofs.Trails.{column_more}
use Rattle.logic_checker.proofs.models.push_kept.Goals as goal

pub vars-preserved : goal.vars-preserved
vars-preserved c = record {
  all = column_more c.args.vars.now c.vars._variable-index c.vars.column c.args.trail.now c.vars.rows c.push_kept_column.new.rows _ c._variable-item.result c.vars-test.true c.in_ok-push_kept_column.ensures c.vars.invariant.all;
  column = ap (λ i. i + 1) c.vars.invariant.column;
}
