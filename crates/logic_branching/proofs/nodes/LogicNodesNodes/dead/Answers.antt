use Rattle.std.proofs.Common.{◌≡◌, subst, IfOk}
use Rattle.model_tree.specs.Values.{model_tree}
use Rattle.model_reading.specs.Reading.{first_false}
use Rattle.logic_branching.proofs.nodes.LogicNodesNodes.dead.Goals as goal

pub returns : goal.returns
returns c =
    subst (λ p. IfOk c.false_item.result (λ item. item ≡ first_false (model_tree c.args.self.now.model.now) p)) c.halves.ensures c.false_item.ensures
