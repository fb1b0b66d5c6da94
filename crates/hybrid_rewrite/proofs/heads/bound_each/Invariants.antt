use Rattle.std.proofs.Common.{◌≡◌, drop, true}
use Rattle.block_tree.specs.Bounds.{are_bounds}
use Rattle.emission.specs.Sums.{nothing}
use Rattle.emission.specs.View.{state_of, open_sum}
use Rattle.emission.proofs.Running.{Following}
use Rattle.hybrid_rewrite.specs.Rewritten.{bound_rows}
use Rattle.hybrid_rewrite.proofs.heads.bound_each.Given as goal

abbrev pub invariant-loop-var : goal.invariant-loop-var
invariant-loop-var l = record {
  empty : open_sum l.out ≡ nothing;
  count : l.id ≡ l.var-index;
  small : are_bounds (drop l.var-index l.vars) ≡ true;
  following : Following (λ n. bound_rows 0 l.vars) (state_of l.initial.out) (λ n. bound_rows l.var-index (drop l.var-index l.vars)) (state_of l.out);
}
