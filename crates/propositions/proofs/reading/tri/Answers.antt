use Rattle.std.proofs.Common.{slice_index_or, ◌∙◌}
use Rattle.gdp_tables.specs.declared.tri.Tri.TheVariants.{No}
use Rattle.propositions.proofs.CompletionLemmas.{prop_completes}
use Rattle.propositions.proofs.KnownLemmas.{prop_known}
use Rattle.propositions.specs.View.{prop_tree}
use Rattle.propositions.proofs.reading.tri.Goals as goal

pub returns-clause-sound : goal.returns-clause-sound
returns-clause-sound c =
    λ truths h. rw (c.read.ensures) (prop_completes (prop_tree c.args.prop.now) truths (λ k. slice_index_or c.args.truths.now k No) h)

pub returns-clause-known : goal.returns-clause-known
returns-clause-known c =
    λ truths h. c.read.ensures ∙ prop_known (prop_tree c.args.prop.now) truths (λ k. slice_index_or c.args.truths.now k No) h
