use Rattle.std.proofs.Common.{◌<◌, length, arith, sym, add-one}
use Rattle.lp_frame.proofs.Places.{place_zero, place_next, place_most, width_most, width_read}
use Rattle.lp_frame.specs.Split.{sign_at}
use Rattle.lp_frame.proofs.sizes.split_count.Goals as goal

pub loop-col-init : goal.loop-col-init
loop-col-init c = sym (place_zero c.args.cols.now)

pub overflow_add-count : goal.overflow_add-count
overflow_add-count c =
    let cols = c.args.cols.now in
    let i = c.loop-col.col-index in
    let within : c.loop-col.col-index < length c.args.cols.now = omega arith in
    let width = width_read cols i within in
    let most = width_most (sign_at cols i) in
    let place = place_most cols i in
    record { fits = omega (arith, c.loop-col.invariant, c.width-count.ensures, width) }

pub loop-col-preserved : goal.loop-col-preserved
loop-col-preserved c =
    let cols = c.args.cols.now in
    let i = c.loop-col.col-index in
    let within : c.loop-col.col-index < length c.args.cols.now = omega arith in
    let width = width_read cols i within in
    let next = place_next cols i within in
    rw add-one (omega (arith, c.loop-col.invariant, c.width-count.ensures))
