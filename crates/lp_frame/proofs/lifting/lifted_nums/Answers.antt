use Rattle.std.proofs.Common.{◌≡◌, ◌<◌, length, arith, ap, sym, add-one, below_more}
use Rattle.std.proofs.lemmas.Grind.{common_steps}
use Rattle.int_linear.specs.Sums.{at}
use Rattle.lp_frame.specs.Split.{lifted}
use Rattle.lp_frame.proofs.Places.{place_zero, place_next, place_within, width_read, sign_read, past_end}
use Rattle.lp_frame.proofs.lifting.lifted_nums.Goals as goal

pub loop-col-init : goal.loop-col-init
loop-col-init c = record {
  next = sym (place_zero c.args.cols.now);
  count = ap length c.new-nums.ensures.items;
  each = λ j h. absurd (omega arith);
}

pub joined_at-requires-clause-within : goal.joined_at-requires-clause-within
joined_at-requires-clause-within c =
    let cols = c.args.cols.now in
    let i = c.loop-col.col-index in
    let within : c.loop-col.col-index < length c.args.cols.now = omega arith in
    let width = width_read cols i within in
    let last = place_within cols i within in
    omega (arith, width, last, c.loop-col.invariant.next, c.requires.count)

pub overflow_add-place : goal.overflow_add-place
overflow_add-place c =
    let cols = c.args.cols.now in
    let i = c.loop-col.col-index in
    let within : c.loop-col.col-index < length c.args.cols.now = omega arith in
    let width = width_read cols i within in
    let last = place_within cols i within in
    record { fits = omega (arith, width, last, c.loop-col.invariant.next, c.requires.count, c.width-place.ensures) }

pub loop-col-preserved : goal.loop-col-preserved
loop-col-preserved c =
    let cols = c.args.cols.now in
    let i = c.loop-col.col-index in
    let within : c.loop-col.col-index < length c.args.cols.now = omega arith in
    let width = width_read cols i within in
    let following = place_next cols i within in
    let value : c.joined_at.result ≡ lifted c.args.cols.now (at c.args.split.now) c.loop-col.col-index = rw (sign_read cols i past_end within, c.loop-col.invariant.next) at c.joined_at.ensures in
    record {
      next = rw add-one (omega (arith, c.loop-col.invariant.next, c.width-place.ensures));
      count = grind (arith, common_steps);
      each = below_more _ _ (λ j h. grind (arith, common_steps, c.loop-col.invariant.each j h)) (grind (arith, common_steps, value));
    }
