use Rattle.emission.specs.View.{state_of}
use Rattle.logic_to_rows.proofs.Steps.{above_step}
use Rattle.logic_to_rows.proofs.bits.above_each.Goals as goal

pub loop-l-preserved : goal.loop-l-preserved
loop-l-preserved c = record {
  empty = c.above.ensures.empty;
  runs = above_step c.args.z c.args.ls.now c.loop-l.l-index _ (state_of c.args.out.now) (state_of c.loop-l.out) (state_of c.above.new.out) c.loop-l-test.true c.loop-l.invariant.runs c.above.ensures.runs;
}
