use Rattle.std.proofs.Common.{pos, arith}
use Rattle.emission.specs.View.{status_of}
use Rattle.logic_to_rows.proofs.Steps.{adds_none, adds_more}
use Rattle.logic_to_rows.proofs.bits.add_each.Goals as goal

pub loop-l-init : goal.loop-l-init
loop-l-init c = record {
  adds = adds_none (pos 1) (status_of c.args.out.now);
  small = omega arith;
}

pub loop-l-preserved : goal.loop-l-preserved
loop-l-preserved c = record {
  adds = adds_more (pos 1) c.args.ls.now c.loop-l.l-index _ (status_of c.args.out.now) (status_of c.loop-l.out) (status_of c.add_literal.new.self) c.loop-l-test.true c.loop-l.invariant.adds c.add_literal.ensures.adds;
  small = let a = c.add_literal.ensures.small in let b = c.loop-l.invariant.small in omega arith;
}
