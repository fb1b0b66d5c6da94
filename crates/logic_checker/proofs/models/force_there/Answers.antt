use Rattle.std.proofs.Common.{◌≡◌}
use Rattle.model_tree.specs.Values.{model_tree}
use Rattle.logic_checker.proofs.Trails.{force_is_there}
use Rattle.logic_checker.proofs.models.force_there.Goals as goal

pub returns : goal.returns
returns c =
    force_is_there (model_tree c.args.model.now) c.args.trail.now c.truths.result.now c.in_ok-force.force c.vars.result.now c.push_kept.new.rows c.in_ok-force.ensures c.truths.ensures c.vars.ensures.value c.in_ok-push_kept.ensures
