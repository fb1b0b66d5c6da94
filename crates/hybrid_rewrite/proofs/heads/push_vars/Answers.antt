use Rattle.std.proofs.Common.{◌+◌, ◌∙◌, [], ◌∷◌, length, drop}
use Rattle.lp_rows.specs.declared.columns.Col.{Col}
use Rattle.emission.specs.Items.{col, number_of}
use Rattle.emission.specs.View.{state_of}
use Rattle.emission.proofs.Running.{following_more}
use Rattle.hybrid_rewrite.specs.Rewritten.{is_zero_low, sign_by, var_cols}
use Rattle.milps.proofs.Lists.{drop_level}
use Rattle.hybrid_rewrite.proofs.heads.push_vars.Goals as goal

pub loop-var-preserved : goal.loop-var-preserved
loop-var-preserved c =
    let v = c.var-item.result in
    let i = c.loop-var.var-index in
    let vs = drop (i + 1) c.args.vars.now in
    let b = state_of c.loop-var.out in
    let one : Col = record { kind = v.1; sign = sign_by (is_zero_low v.2.low) } in
    let level = drop_level c.args.vars.now i v c.loop-var-test.true c.var-item.is in
    let w = rw level at c.loop-var.invariant.following in
    let r = rw c.sign_of.ensures at (c.push_col.ensures.runs (number_of (length b.milp.cols))) in
    record {
      empty = c.push_col.ensures.open ∙ c.loop-var.invariant.empty;
      following = following_more (λ n. var_cols n c.args.vars.now) (state_of c.args.out.now) (λ n. col n one (number_of n) ∷ []) (λ n. var_cols n vs) b (state_of c.push_col.new.self) w r;
    }
