use Rattle.std.proofs.Common.{arith, None, sym, ap, ◌∙◌}
use Rattle.model_items.specs.steps.Picking.{item_total}
use Rattle.model_tree.specs.Values.{model_tree}
use Rattle.model_tree.specs.View.{block_of}
use Rattle.model_items.proofs.CountingLemmas.{block_counted, few_items}
use Rattle.model_items.proofs.items.item_count.Goals as goal

pub count_in_block-requires : goal.count_in_block-requires
count_in_block-requires c =
    rw c.root.ensures (let few = few_items (model_tree c.args.model.now) c.vars.ensures.sound in omega (arith, few))

pub returns : goal.returns
returns c =
    c.count_in_block.ensures ∙ ap (λ b. item_total (block_of b)) c.root.ensures ∙ sym (block_counted None (model_tree c.args.model.now).root)
