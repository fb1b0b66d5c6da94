use Rattle.std.proofs.Common.{◌≡◌, ◌+◌, ◌≤◌, ◌++◌, true, vec_len, vec_capacity}
use Rattle.std.specs.List.{list_all}
use Rattle.proof_tree.specs.Packing.{mults_in, pairs_in, pair_fits}
use Rattle.proof_tree.proofs.unpack.read_mults.Given as goal

abbrev pub invariant-loop-left : goal.invariant-loop-left
invariant-loop-left l = record {
  mults : l.mults.items ++ (pairs_in l.left l.numbers).0 ≡ (mults_in l.fn.numbers).0;
  rest : (pairs_in l.left l.numbers).1 ≡ (mults_in l.fn.numbers).1;
  fit : list_all pair_fits (pairs_in l.left l.numbers).0 ≡ true;
  room : vec_len l.mults + l.left ≤ vec_capacity l.mults;
}

abbrev pub decreases-loop-left : goal.decreases-loop-left
decreases-loop-left l = l.left
