use Rattle.std.proofs.Common.{slice_index_or, ◌∙◌}
use Rattle.gdp_tables.specs.declared.tri.Tri.TheVariants.{No}
use Rattle.propositions.proofs.CompletionLemmas.{prop_completes}
use Rattle.propositions.proofs.KnownLemmas.{prop_known}
use Rattle.model_items.specs.Items.{condition_of}
use Rattle.model_tree.specs.Values.{model_tree}
use Rattle.model_items.proofs.items.item_tri.Goals as goal

pub returns-clause-sound : goal.returns-clause-sound
returns-clause-sound c =
    λ truths h. rw (c.read_item.ensures)
    (prop_completes (condition_of (model_tree c.args.model.now) c.args.place) truths (λ k. slice_index_or c.args.truths.now k No) h)

pub returns-clause-known : goal.returns-clause-known
returns-clause-known c =
    λ truths h. c.read_item.ensures
    ∙ prop_known (condition_of (model_tree c.args.model.now) c.args.place) truths (λ k. slice_index_or c.args.truths.now k No) h
