use Rattle.std.proofs.Common.{suc, ◌∙◌, [], ◌∷◌, drop, add-one}
use Rattle.propositions.specs.Tree.{atom}
use Rattle.emission.specs.Items.{col, truth, binary}
use Rattle.emission.specs.View.{state_of}
use Rattle.emission.proofs.Running.{following_more}
use Rattle.hybrid_rewrite.specs.Rewritten.{bool_cols}
use Rattle.milps.proofs.Lists.{drop_level}
use Rattle.hybrid_rewrite.proofs.heads.push_booleans.Goals as goal

pub loop-boolean-preserved : goal.loop-boolean-preserved
loop-boolean-preserved c =
    let i = c.loop-boolean._boolean-index in
    let bs = drop (suc i) c.args.booleans.now in
    let b = state_of c.loop-boolean.out in
    let level = rw (add-one i) at (drop_level c.args.booleans.now i c._boolean-item.result c.loop-boolean-test.true c._boolean-item.is) in
    let w = rw level at c.loop-boolean.invariant.following in
    record {
      empty = c.push_col.ensures.open ∙ c.loop-boolean.invariant.empty;
      following = rw (add-one i) (following_more (λ n. bool_cols n 0 c.args.booleans.now) (state_of c.args.out.now) (λ n. col n binary (truth (atom i)) ∷ []) (λ n. bool_cols n (suc i) bs) b (state_of c.push_col.new.self) w (c.push_col.ensures.runs (truth (atom i))));
    }
