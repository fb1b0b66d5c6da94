use Rattle.model_items.proofs.OccursLemmas.{disjunction_added, disjunct_added}
use Rattle.model_items.proofs.occurring.+occurs.Goals as goal

pub add_disjunctions-loop-disjunction-preserved : goal.add_disjunctions-loop-disjunction-preserved
add_disjunctions-loop-disjunction-preserved t c =
    disjunction_added c.args.disjunctions.now c.loop-disjunction.disjunction-index c.disjunction-item.result c.args.ids.now c.loop-disjunction.ids c.add_disjunction.new.ids
    c.loop-disjunction-test.true c.disjunction-item.is c.in_ok-add_disjunction.ensures c.loop-disjunction.invariant

pub add_disjuncts-loop-disjunct-preserved : goal.add_disjuncts-loop-disjunct-preserved
add_disjuncts-loop-disjunct-preserved t c =
    disjunct_added c.args.disjuncts.now c.loop-disjunct.disjunct-index c.disjunct-item.result c.args.ids.now c.loop-disjunct.ids c.add_disjunct.new.ids
    c.loop-disjunct-test.true c.disjunct-item.is c.in_ok-add_disjunct.ensures c.loop-disjunct.invariant
