use Rattle.model_items.proofs.OccursLemmas.{term_added}
use Rattle.model_items.proofs.occurring.add_terms.Goals as goal

pub loop-term-preserved : goal.loop-term-preserved
loop-term-preserved c =
    term_added c.args.terms.now c.loop-term.term-index c.args.ids.now c.loop-term.ids c.insert.new.self
    c.loop-term-test.true c.in_ok-insert.ensures.updates c.loop-term.invariant
