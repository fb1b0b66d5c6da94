use Rattle.std.proofs.Common.{rules}
use Rattle.model_tree.specs.Values.{model_tree}
use Rattle.lowest_terms.proofs.Claims.{best_passes}
use Rattle.lowest_terms.proofs.making.best_of.Goals as goal

pub returns-in-Ok-value : goal.returns-in-Ok-value
returns-in-Ok-value c =
    best_passes (model_tree c.args.model.now) c.args.at c.args.truths c.args.proof c.in-Ok-value.value (search rules) (search rules) (search rules)
