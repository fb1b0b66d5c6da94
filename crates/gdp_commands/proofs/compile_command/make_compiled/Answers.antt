use Rattle.std.proofs.Common.{ap, length}
use Rattle.model_tree.specs.Values.{model_tree}
use Rattle.gdp_commands.proofs.Compiling.{compiled_put}
use Rattle.gdp_commands.proofs.compile_command.make_compiled.Goals as goal

pub returns : goal.returns
returns c =
    let a = rw c.vars-vars.ensures.value at c.in_ok-put_vars.ensures in
    let b = rw c.booleans.ensures at c.in_ok-put_booleans.ensures in
    compiled_put (model_tree c.args.model.now) c.args.milp.now c.new-text.result c.put_vars.new.text c.put_booleans.new.text c.put_milp.new.out (length c.vars-vars.result.now)
    c.new-text.ensures (ap length c.vars-vars.ensures.value) a b (cc c.in_ok-put_milp.ensures.whole)
