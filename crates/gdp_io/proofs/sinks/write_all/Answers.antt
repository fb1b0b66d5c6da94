use Rattle.std.proofs.Common.{rules}
use Rattle.gdp_io.proofs.Written.{goes_on}
use Rattle.gdp_io.proofs.sinks.write_all.Goals as goal

pub pieces-preserved : goal.pieces-preserved
pieces-preserved g c = record {
  within = search rules;
  so_far = goes_on _ _ _ c.args.text.now c.pieces.at c.in-Ok.count c.pieces.invariant.so_far c.in-Ok.ensures.bytes;
  count = search rules;
}
