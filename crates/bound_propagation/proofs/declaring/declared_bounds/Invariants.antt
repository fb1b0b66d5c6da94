use Rattle.std.proofs.Common.{◌≡◌, ◌++◌, drop, map, length, true}
use Rattle.block_tree.specs.Bounds.{are_bounds}
use Rattle.bound_propagation.specs.Kept.{are_ends_storable}
use Rattle.bound_propagation.specs.Narrowing.{low_declared, high_declared}
use Rattle.bound_propagation.proofs.declaring.declared_bounds.Given as goal

abbrev pub invariant-loop-var : goal.invariant-loop-var
invariant-loop-var l = record {
  low : l.lows.items ++ map low_declared (drop l.var-index l.vars) ≡ map low_declared l.vars;
  high : l.highs.items ++ map high_declared (drop l.var-index l.vars) ≡ map high_declared l.vars;
  low_count : length l.lows.items ≡ l.var-index;
  high_count : length l.highs.items ≡ l.var-index;
  low_small : are_ends_storable l.lows.items ≡ true;
  high_small : are_ends_storable l.highs.items ≡ true;
  bounds : are_bounds (drop l.var-index l.vars) ≡ true;
}
