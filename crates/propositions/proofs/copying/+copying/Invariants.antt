use Rattle.std.proofs.Common.{◌≡◌, ◌++◌, drop, length, map, vec_len, vec_capacity}
use Rattle.propositions.specs.View.{prop_tree}
use Rattle.propositions.proofs.copying.+copying.Given as goal

abbrev pub invariant-copy_all-loop-prop : goal.invariant-copy_all-loop-prop
invariant-copy_all-loop-prop l = record {
  room : vec_capacity l.copies ≡ length l.props;
  length : vec_len l.copies ≡ l.prop-index;
  copied : map prop_tree l.copies.items ++ map prop_tree (drop l.prop-index l.props) ≡ map prop_tree l.props;
}
