use Rattle.std.proofs.Common.{◌≡◌, ◌∙◌, ap, sym, subst, length, rules, List, Bool}
use Rattle.block_tree.specs.Values.{model_tree}
use Rattle.block_tree.specs.View.{rows_in, block_of}
use Rattle.bound_propagation.specs.Kept.{box_of}
use Rattle.bound_propagation.specs.Moving.{AreOthersIdle}
use Rattle.bound_propagation.specs.Narrowing.{kinds_of}
use Rattle.bound_propagation.specs.Propagated.{whole_box}
use Rattle.bound_propagation.proofs.Moved.{all_moved}
use Rattle.bound_propagation.proofs.Sounds.{rounds_done, rounds_more, rows_sound}
use Rattle.bound_propagation.proofs.propagating.propagate.Goals as goal

pub next_round-requires-clause-ids : goal.next_round-requires-clause-ids
next_round-requires-clause-ids c =
    rw (c.loop-round.invariant.count, c.rows-rows.ensures.tree, c.root-root.ensures, c.vars-vars.ensures.value) (rows_sound (model_tree c.args.model.now) c.vars-vars.ensures.sound)

pub next_round-requires-clause-few : goal.next_round-requires-clause-few
next_round-requires-clause-few c = rw (c.loop-round.invariant.count, c.vars-vars.ensures.value) c.vars-vars.ensures.sound.few_variables

pub loop-round-preserved : goal.loop-round-preserved
loop-round-preserved c =
    let kinds = kinds_of c.vars-vars.result.now in
    let box = whole_box c.vars-vars.result.now in
    record {
      count = c.in-Ok-next_round.ensures.count ∙ c.loop-round.invariant.count;
      idle = c.in-Ok-next_round.ensures.idle;
      boxed = rounds_more c.loop-round._round kinds c.rows-rows.result.now box (box_of c.loop-round.round.bounds) (box_of c.in-Ok-next_round.next.bounds) c.loop-round.invariant.boxed c.in-Ok-next_round.ensures.boxed;
    }

pub returns-clause-count : goal.returns-clause-count
returns-clause-count c = c.loop-round.invariant.count ∙ ap length c.vars-vars.ensures.value

pub returns-clause-boxed : goal.returns-clause-boxed
returns-clause-boxed c =
    let n : c.loop-round._round ≡ 8 = search rules in
    rounds_done (model_tree c.args.model.now) c.loop-round._round c.vars-vars.result.now c.rows-rows.result.now (box_of c.loop-round.round.bounds) n c.vars-vars.ensures.value
    (c.rows-rows.ensures.tree ∙ ap (λ b. rows_in (block_of b)) c.root-root.ensures) c.loop-round.invariant.boxed

pub loop-round-init : goal.loop-round-init
loop-round-init c =
    let kinds = kinds_of c.vars-vars.result.now in
    let rows = c.rows-rows.result.now in
    let box = box_of c.in-Ok.bounds in
    record {
      count = c.in-Ok.ensures.count;
      idle = subst (λ (m : List Bool). AreOthersIdle kinds rows m box) (sym c.new.ensures.items) (all_moved kinds rows box);
      boxed = c.in-Ok.ensures.boxed;
    }
