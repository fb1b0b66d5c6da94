use Rattle.std.proofs.Common.{ℕ, slice_index_or}
use Rattle.gdp_tables.specs.declared.tri.Tri.{Tri}
use Rattle.gdp_tables.specs.declared.tri.Tri.TheVariants.{No}
use Rattle.model_tree.specs.View.{block_of, props_of}
use Rattle.model_reading.proofs.Passes.{block_few}
use Rattle.model_reading.proofs.dead.pass_own.Goals as goal

pub returns-clause-few : goal.returns-clause-few
returns-clause-few c =
    let t : ℕ → Tri = λ k. slice_index_or c.args.tris.now k No in
    block_few (block_of c.args.block.now) c.args.under t c.args.from (props_of c.props.result.now) c.pass_props.result c.props.ensures.tree c.pass_props.ensures c.requires.few
