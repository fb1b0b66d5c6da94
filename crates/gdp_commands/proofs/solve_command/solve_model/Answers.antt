use Rattle.std.proofs.Common.{rules, Ok}
use Rattle.model_tree.specs.Values.{model_tree}
use Rattle.rewrite_solving.specs.declared.reached.Reached.TheVariants.{Claimed}
use Rattle.gdp_solve.specs.Solved.{IsSolution}
use Rattle.gdp_solve.proofs.Right.{claims_are_right}
use Rattle.gdp_commands.proofs.solve_command.solve_model.Goals as goal

pub claimed-requires : goal.claimed-requires
claimed-requires c =
    let m = model_tree c.args.model.now in
    let s : IsSolution m c.args.route c.args.steps (Ok (Claimed c.in-Ok-Claimed.claim)) = search rules in
    (claims_are_right m c.args.route c.args.steps c.in-Ok-Claimed.claim s).counted
