use Rattle.std.proofs.Common.{◌<◌, length, arith, ap, sym, add-one, below_more}
use Rattle.std.proofs.lemmas.Grind.{common_steps}
use Rattle.lp_frame.proofs.Places.{place_zero, place_next, place_within, width_read}
use Rattle.lp_frame.proofs.form.places_of.Goals as goal

pub loop-col-init : goal.loop-col-init
loop-col-init c = record {
  next = sym (place_zero c.args.cols.now);
  count = ap length c.new-places.ensures.items;
  each = λ j h. absurd (omega arith);
}

pub overflow_add-next : goal.overflow_add-next
overflow_add-next c =
    let cols = c.args.cols.now in
    let i = c.loop-col.col-index in
    let within : c.loop-col.col-index < length c.args.cols.now = omega arith in
    let width = width_read cols i within in
    let most = place_within cols i within in
    record { fits = omega (arith, c.loop-col.invariant.next, c.width.ensures, c.requires) }

pub loop-col-preserved : goal.loop-col-preserved
loop-col-preserved c =
    let cols = c.args.cols.now in
    let i = c.loop-col.col-index in
    let within : c.loop-col.col-index < length c.args.cols.now = omega arith in
    let width = width_read cols i within in
    let following = place_next cols i within in
    record {
      next = rw add-one (omega (arith, c.loop-col.invariant.next, c.width.ensures));
      count = grind (arith, common_steps);
      each = below_more _ _ (λ j h. grind (arith, common_steps, c.loop-col.invariant.each j h)) (grind (arith, common_steps));
    }
