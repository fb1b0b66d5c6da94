use Rattle.std.proofs.Common.{◌≡◌, ◌∙◌, List, ap, arith}
use Rattle.propositions.specs.Tree.{PropTree, listed, at_least}
use Rattle.propositions.specs.View.{in_order}
use Rattle.propositions.proofs.Layers.{at_least_tree}
use Rattle.model_builder.specs.Standing.{stands_for}
use Rattle.model_maker.specs.Generated.{first_indicators}
use Rattle.model_maker.proofs.Chosen.{prop_accepted, prop_added}
use Rattle.model_maker.proofs.Rows.{if_ok}
use Rattle.model_maker.proofs.choices.add_some_first.Goals as goal

pub add_prop-requires : goal.add_prop-requires
add_prop-requires c =
    let last : c.loop-i.i ≡ c.args.size = omega (arith, c.loop-i-test.false, c.loop-i.auto.i-end) in
    prop_accepted c.args.size c.choice_line.result _ (stands_for c.args.builder.now) c.requires.some c.requires.size c.requires.chosen c.choice_line.ensures.line
    (at_least_tree 1 c.loop-i.firsts ∙ ap (λ (ps : List PropTree). listed (at_least 1) (in_order ps)) (c.loop-i.invariant ∙ ap first_indicators last))

pub returns : goal.returns
returns c =
    let last : c.loop-i.i ≡ c.args.size = omega (arith, c.loop-i-test.false, c.loop-i.auto.i-end) in
    if_ok c.add_prop.result _ _
    (λ e. e ∙ prop_added c.args.size c.choice_line.result _ (stands_for c.args.builder.now) c.requires.some c.requires.size c.requires.chosen c.choice_line.ensures.line
    (at_least_tree 1 c.loop-i.firsts ∙ ap (λ (ps : List PropTree). listed (at_least 1) (in_order ps)) (c.loop-i.invariant ∙ ap first_indicators last)))
    c.add_prop.ensures
