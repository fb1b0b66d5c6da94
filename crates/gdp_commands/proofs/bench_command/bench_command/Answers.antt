use Rattle.std.proofs.Common.{◌≡◌, ℕ, subst}
use Rattle.std.specs.Result.{IfOk}
use Rattle.gdp_solve.specs.Solved.{IsSolution}
use Rattle.model_maker.specs.Generated.{generated}
use Rattle.model_tree.specs.Values.{ModelTree, model_tree}
use Rattle.gdp_commands.specs.Bench.{BenchSays, BenchedSays}
use Rattle.gdp_commands.specs.Replies.{text_of}
use Rattle.gdp_commands.specs.Table.{For}
use Rattle.gdp_commands.proofs.bench_command.bench_command.Goals as goal

pub returns-clause-says : goal.returns-clause-says
returns-clause-says c =
    let made : model_tree c.in_ok-model.model ≡ generated c.args.seed c.get-number.result = c.in_ok-model.ensures in
    let number : c.get-number.result ≡ c.args.size = c.get-number.ensures.same in
    subst (λ (n : ℕ). IfOk c.bench_model.result (λ reply. BenchSays c.args.route c.args.steps c.args.seed n reply.status (text_of reply))) number
    (subst
    (λ (m : ModelTree). IfOk c.bench_model.result (λ reply. For (IsSolution m c.args.route c.args.steps) (BenchedSays m c.args.route c.args.seed c.get-number.result) reply.status (text_of reply)))
    made c.bench_model.ensures.says)
