use Rattle.std.proofs.Common.{◌≡◌, ◌∙◌, ◌++◌, ap, length, reverse, slice_index_or}
use Rattle.gdp_tables.specs.declared.tri.Tri.TheVariants.{No}
use Rattle.model_tree.specs.Values.{model_tree}
use Rattle.model_tree.specs.View.{block_of, rows_in}
use Rattle.model_forces.specs.Forces.{cols_of, rows_of_vars, at_most_rows, rows_below, rows_of_path}
use Rattle.model_forces.specs.Tables.{listed}
use Rattle.model_forces.specs.Paths.{tris_on}
use Rattle.model_forces.proofs.Gathered.{gathered, force_is}
use Rattle.model_forces.proofs.force.model_force.Goals as goal

pub returns : goal.returns
returns c =
    let m = model_tree c.args.model.now in
    let path = c.args.path.now in
    let vars = c.vars-vars.ensures.value in
    let halves = c.halves-halves.ensures in
    let given = c.args.model.now.root in
    let own : c.rows-2.result.now ≡ rows_in (block_of given) = c.rows-2.ensures.tree ∙ ap (λ r. rows_in (block_of r)) c.root-root.ensures in
    let tris = c.as_slice.ensures.value ∙ c.in_ok-tris.ensures ∙ ap (λ p. listed (tris_on p) 0 (length c.booleans.result.now)) halves ∙ ap (λ bs. listed (tris_on path) 0 (length bs)) c.booleans.ensures in
    let one = c.in_ok-push_vars.ensures ∙ ap (λ r. r ++ rows_of_vars c.vars-vars.result.now 0) c.new-rows.ensures ∙ ap (λ vs. rows_of_vars vs 0) vars in
    let two = c.in_ok-push_rows.ensures ∙ ap (λ rs. c.push_vars.new.rows ++ at_most_rows rs) own in
    let three = c.in_ok-push_block.ensures ∙ ap (λ r. c.push_rows.new.rows ++ rows_below (block_of r) (λ k. slice_index_or c.as_slice.result.now k No)) c.root-root.ensures in
    let four = c.in_ok-push_bounds.ensures ∙ ap (λ vs. c.push_block.new.rows ++ rows_of_path vs 0 (reverse c.halves-halves.result.now)) vars ∙ ap (λ p. c.push_block.new.rows ++ rows_of_path m.vars 0 p) halves in
    let cols = c.in_ok-cols.ensures ∙ ap cols_of vars in
    force_is m path c.args.goal c.in_ok-cols.cols c.push_bounds.new.rows c.in_ok-goal.goal cols
    (gathered m path c.push_vars.new.rows c.push_rows.new.rows c.push_block.new.rows c.push_bounds.new.rows c.as_slice.result.now tris one two three four) c.in_ok-goal.ensures
