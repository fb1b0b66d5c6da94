use Rattle.model_builder.specs.Standing.{stands_for}
use Rattle.model_tree.specs.Values.{model_tree}
use Rattle.model_maker.proofs.Made.{can_aim, is_declared, is_chosen, finish_accepted, made_is}
use Rattle.model_maker.proofs.make.make_model.Goals as goal

pub add_goal-requires-clause-bare : goal.add_goal-requires-clause-bare
add_goal-requires-clause-bare c = can_aim c.new-draws.result c.args.size _ c.in_ok-add_vars.ensures.added

pub add_choices-requires-clause-declared : goal.add_choices-requires-clause-declared
add_choices-requires-clause-declared c =
    is_declared c.new-draws.result c.args.size _ (stands_for c.add_vars.new.builder) (stands_for c.add_goal.new.builder) c.in_ok-add_vars.ensures.added c.in_ok-add_goal.ensures.added

pub add_some_first-requires-clause-chosen : goal.add_some_first-requires-clause-chosen
add_some_first-requires-clause-chosen c =
    is_chosen c.add_goal.new.draws c.args.size (stands_for c.add_goal.new.builder) (stands_for c.add_choices.new.builder)
    (is_declared c.new-draws.result c.args.size _ (stands_for c.add_vars.new.builder) (stands_for c.add_goal.new.builder) c.in_ok-add_vars.ensures.added c.in_ok-add_goal.ensures.added)
    c.in_ok-add_choices.ensures

pub finish-requires : goal.finish-requires
finish-requires c =
    finish_accepted c.new-draws.result c.add_vars.new.draws c.add_goal.new.draws c.args.size (stands_for c.add_vars.new.builder) (stands_for c.add_goal.new.builder) (stands_for c.add_choices.new.builder) (stands_for c.add_some_first.new.builder)
    c.requires.some c.in_ok-add_vars.ensures.added c.in_ok-add_goal.ensures.added c.in_ok-add_choices.ensures c.in_ok-add_some_first.ensures

pub returns : goal.returns
returns c =
    made_is c.args.seed c.new-draws.result c.add_vars.new.draws c.add_goal.new.draws c.args.size (stands_for c.add_vars.new.builder) (stands_for c.add_goal.new.builder) (stands_for c.add_choices.new.builder) (stands_for c.add_some_first.new.builder)
    (model_tree c.finish.result) c.requires.some c.in_ok-add_vars.ensures.added c.in_ok-add_goal.ensures.added c.in_ok-add_choices.ensures c.in_ok-add_some_first.ensures
    c.new-draws.ensures c.in_ok-add_vars.ensures.drawn c.in_ok-add_goal.ensures.drawn c.finish.ensures
