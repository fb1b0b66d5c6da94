use Rattle.std.proofs.Common.{◌≡◌, ◌+◌, true, drop, length, map, slice_index_or}
use Rattle.gdp_tables.specs.declared.tri.Tri.TheVariants.{No}
use Rattle.model_tree.specs.Earlier.{name_only_first}
use Rattle.model_tree.specs.View.{props_of}
use Rattle.model_items.specs.Items.{enforced}
use Rattle.model_reading.specs.Passing.{passed}
use Rattle.model_reading.proofs.dead.pass_props.Given as goal

abbrev pub invariant-loop-prop : goal.invariant-loop-prop
invariant-loop-prop l = record {
  below : name_only_first (length l.tris) (props_of (drop l.prop-index l.props)) ≡ true;
  few : l.next ≡ l.from + l.prop-index;
  rest : passed (λ k. slice_index_or l.tris k No) (map (λ q. enforced l.under q.0) (props_of (drop l.prop-index l.props))) l.next
      ≡ passed (λ k. slice_index_or l.tris k No) (map (λ q. enforced l.under q.0) (props_of l.props)) l.from;
}
