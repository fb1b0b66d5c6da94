use Rattle.std.proofs.Common.{◌∙◌, ℕ, ap, sym, subst}
use Rattle.model_builder.specs.Building.{BuildingValue}
use Rattle.model_builder.specs.Standing.{stands_for}
use Rattle.model_maker.specs.Draws.{after}
use Rattle.model_maker.specs.Steps.{CanChoose, with_choice}
use Rattle.model_maker.proofs.Chosen.{next_can, one_more, four_on}
use Rattle.model_maker.proofs.choices.add_choices.Goals as goal

pub add_choice-requires-clause-chosen : goal.add_choice-requires-clause-chosen
add_choice-requires-clause-chosen c =
    subst (λ (b : BuildingValue). CanChoose c.args.size c.loop-i.i b) (sym c.loop-i.invariant.1) (next_can c.args.draws.now c.args.size c.loop-i.i (stands_for c.args.builder.now) c.requires.declared)

pub loop-i-preserved : goal.loop-i-preserved
loop-i-preserved c = (
  c.in_ok-add_choice.ensures.drawn ∙ ap (λ (s : ℕ). after s 4) c.loop-i.invariant.0 ∙ four_on c.args.draws.now c.loop-i.i,
  c.in_ok-add_choice.ensures.added ∙ ap (λ (b : BuildingValue). with_choice c.loop-i.draws c.args.size c.loop-i.i b) c.loop-i.invariant.1
      ∙ one_more c.args.draws.now c.loop-i.draws c.args.size c.loop-i.i (stands_for c.args.builder.now) c.loop-i.invariant.0,
)
