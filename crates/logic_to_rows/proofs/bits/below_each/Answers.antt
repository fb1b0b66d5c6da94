use Rattle.emission.specs.View.{state_of}
use Rattle.logic_to_rows.proofs.Steps.{below_step}
use Rattle.logic_to_rows.proofs.bits.below_each.Goals as goal

pub loop-l-preserved : goal.loop-l-preserved
loop-l-preserved c = record {
  empty = c.below.ensures.empty;
  runs = below_step c.args.z c.args.ls.now c.loop-l.l-index _ (state_of c.args.out.now) (state_of c.loop-l.out) (state_of c.below.new.out) c.loop-l-test.true c.loop-l.invariant.runs c.below.ensures.runs;
}
