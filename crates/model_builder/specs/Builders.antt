-- What a builder stands for.
use Rattle.std.specs.Prelude.{◌≡◌, map, reverse, Option, None, Some}
use Rattle.model_builder.specs.declared.parts.Level.{Level}
use Rattle.model_builder.specs.declared.parts.Opened.{Opened}
use Rattle.model_builder.specs.declared.parts.Parts.{Parts}
use Rattle.model_builder.specs.declared.parts.Totals.{Totals}
use Rattle.model_builder.specs.Building.{OpenBlock, OpenDisjunction, BuildingValue, rows_so_far}
use Rattle.model_builder.specs.Props.{nodes_so_far}
use Rattle.model_tree.specs.View.{disjunct_of, disjunction_of, props_of}

abbrev pub open_block_of : Level → OpenBlock
open_block_of l = record { indicator = l.indicator; mark = l.mark; rows = l.rows.items; props = props_of l.props.items; closed = map disjunction_of l.disjunctions.items }

abbrev pub open_disjunction_of : Opened → OpenDisjunction
open_disjunction_of d = record { mode = d.mode; mark = d.mark; closed = map disjunct_of d.disjuncts.items }

abbrev pub opened_of : Option Opened → Option OpenDisjunction
opened_of None = None
opened_of (Some d) = Some (open_disjunction_of d)

abbrev pub pair_of : Level × Opened → OpenBlock × OpenDisjunction
pair_of o = (open_block_of o.0, open_disjunction_of o.1)

-- what the parts of a builder stand for
abbrev pub building_of : Parts → BuildingValue
building_of b = record {
  vars = b.vars;
  booleans = b.booleans;
  goal = b.goal;
  inner = open_block_of b.inner;
  opened = opened_of b.opened;
  outer = map pair_of (reverse b.outer.items);
}

-- these are the totals of the rows and of the nodes of propositions
abbrev pub IsCounted : Totals → BuildingValue → Type 0
IsCounted totals b = (totals.rows ≡ rows_so_far b) × (totals.nodes ≡ nodes_so_far b)
