use Rattle.std.proofs.Common.{◌∷◌, [], ap, refl, take, length, ◌∙◌}
use Rattle.packed_numbers.proofs.Reading.{still_before}
use Rattle.milp_forces.specs.Tracks.{packed_before}
use Rattle.milp_forces.proofs.Tracks.{below, still_below}
use Rattle.milp_forces.proofs.track.put_parts.Goals as goal

pub returns-in_err-put_split-clause-below : goal.returns-in_err-put_split-clause-below
returns-in_err-put_split-clause-below c =
    let old = c.args.bytes.now.items in
    let middle = c.put_before.new.bytes.items in
    still_below old middle c.put_split.new.bytes.items
    (below old middle (packed_before c.args.step.before) c.in_ok-put_before.ensures.ok)
    c.in_err-put_split.ensures.below

pub returns-in_err-push-clause-below : goal.returns-in_err-push-clause-below
returns-in_err-push-clause-below c =
    let old = c.args.bytes.now.items in
    let middle = c.put_before.new.bytes.items in
    ap (take (length old)) c.in_err-push.ensures.items
    ∙ still_below old middle c.put_split.new.bytes.items
    (below old middle (packed_before c.args.step.before) c.in_ok-put_before.ensures.ok)
    c.in_ok-put_split.ensures.below

pub returns-clause-below : goal.returns-clause-below
returns-clause-below c =
    let old = c.args.bytes.now.items in
    let middle = c.put_before.new.bytes.items in
    let high = c.put_split.new.bytes.items in
    ap (take (length old)) c.in_ok-push.ensures.items
    ∙ still_before (length old) old high (c.tag.result ∷ []) refl
    (still_below old middle high
    (below old middle (packed_before c.args.step.before) c.in_ok-put_before.ensures.ok)
    c.in_ok-put_split.ensures.below)
