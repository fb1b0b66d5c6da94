use Rattle.packed_numbers.specs.Packed.{packed_natural}
use Rattle.milp_forces.proofs.Tracks.{below, put_below, still_below}
use Rattle.milp_forces.proofs.track.put_split.Goals as goal

pub returns-in-Truth-clause-below : goal.returns-in-Truth-clause-below
returns-in-Truth-clause-below c =
    put_below c.put_natural.result c.args.bytes.now.items c.put_natural.new.bytes.items (packed_natural c.from.result) c.put_natural.ensures.ok c.put_natural.ensures.err

pub returns-in_ok-put_number-in-Int-clause-below : goal.returns-in_ok-put_number-in-Int-clause-below
returns-in_ok-put_number-in-Int-clause-below c =
    let middle = c.put_number.new.bytes.items in
    let put = c.put_natural-in-Int in
    still_below c.args.bytes.now.items middle put.new.bytes.items
    (below c.args.bytes.now.items middle _ c.in_ok-put_number-in-Int.ensures.ok)
    (put_below put.result middle put.new.bytes.items (packed_natural c.from-in-Int.result) put.ensures.ok put.ensures.err)
