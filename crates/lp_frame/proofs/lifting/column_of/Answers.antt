use Rattle.std.proofs.Common.{arith, add-one}
use Rattle.lp_frame.proofs.Places.{place_zero, place_next, width_read}
use Rattle.lp_frame.proofs.lifting.column_of.Goals as goal

pub loop-j-init : goal.loop-j-init
loop-j-init c = let z = place_zero c.args.cols.now in omega arith

pub returns-then-left-columns : goal.returns-then-left-columns
returns-then-left-columns c =
    let width = width_read c.args.cols.now c.loop-j.j c.loop-j-test.true in
    record {
      within = c.loop-j-test.true;
      from = omega (arith, c.loop-j.invariant);
      before = omega (arith, width, c.loop-j.invariant, c.if-left-columns.true, c.width-columns.ensures);
    }

pub loop-j-preserved : goal.loop-j-preserved
loop-j-preserved c =
    let width = width_read c.args.cols.now c.loop-j.j c.loop-j-test.true in
    let following = place_next c.args.cols.now c.loop-j.j c.loop-j-test.true in
    rw add-one (omega (arith, width, following, c.loop-j.invariant, c.if-left-columns.false, c.width-columns.ensures))
