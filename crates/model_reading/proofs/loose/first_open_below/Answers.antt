use Rattle.std.proofs.Common.{◌∙◌, sym, ap, arith}
use Rattle.propositions.specs.Reading.{is_open}
use Rattle.model_reading.proofs.OpenBooleans.{open_past}
use Rattle.model_reading.proofs.loose.first_open_below.Goals as goal

pub loop-round-preserved : goal.loop-round-preserved
loop-round-preserved c = record {
  far = omega (arith, c.loop-round.invariant.far, c.past_named-id.ensures.after);
  rest =
      sym (open_past c.args.halves.now c.loop-round.id c.past_named-id.result c.args.count (omega (arith, c.if-id-count.false))
      (ap is_open (sym c.known.ensures) ∙ sym c.is_open.ensures ∙ c.if-is_open.false) c.past_named-id.ensures.after c.past_named-id.ensures.within c.past_named-id.ensures.named)
      ∙ c.loop-round.invariant.rest;
}
