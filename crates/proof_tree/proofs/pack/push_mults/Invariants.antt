use Rattle.std.proofs.Common.{◌≡◌, ◌++◌, drop, take, length, true}
use Rattle.std.specs.List.{list_all}
use Rattle.proof_tree.specs.Packing.{packed_pairs, packed_mults, pair_fits}
use Rattle.proof_tree.proofs.pack.push_mults.Given as goal

abbrev pub invariant-loop-pair : goal.invariant-loop-pair
invariant-loop-pair l = record {
  whole : l.bytes.items ++ packed_pairs (drop l.pair-index l.mults) ≡ l.fn.bytes.items ++ packed_mults l.mults;
  fit : list_all pair_fits (take l.pair-index l.mults) ≡ true;
  before : take (length l.fn.bytes.items) l.bytes.items ≡ l.fn.bytes.items;
}
