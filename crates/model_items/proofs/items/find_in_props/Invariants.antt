use Rattle.std.proofs.Common.{◌≡◌, true, drop, length, map, slice_index_or}
use Rattle.gdp_tables.specs.declared.tri.Tri.TheVariants.{No}
use Rattle.model_tree.specs.Earlier.{name_only_first}
use Rattle.model_items.specs.Items.{enforced}
use Rattle.model_items.specs.steps.Picking.{readings, reading_at}
use Rattle.model_tree.specs.View.{props_of}
use Rattle.model_items.proofs.items.find_in_props.Given as goal

abbrev pub invariant-loop-prop : goal.invariant-loop-prop
invariant-loop-prop l = record {
  below : name_only_first (length l.truths) (props_of (drop l.prop-index l.props)) ≡ true;
  rest : reading_at (readings (λ k. slice_index_or l.truths k No) (map (λ q. enforced l.under q.0) (props_of (drop l.prop-index l.props)))) l.left
      ≡ reading_at (readings (λ k. slice_index_or l.truths k No) (map (λ q. enforced l.under q.0) (props_of l.props))) l.place;
}
