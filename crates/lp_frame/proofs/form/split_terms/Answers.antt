use Rattle.std.proofs.Common.{◌<◌, FitsSigned, length, get_or, pos, rules, arith, append_assoc}
use Rattle.std.specs.Int.{w128}
use Rattle.std.proofs.lemmas.Int.{to_z-of_z}
use Rattle.lp_frame.specs.Split.{sign_at}
use Rattle.lp_frame.proofs.Places.{place_within, width_some, sign_read, past_end}
use Rattle.lp_frame.proofs.Terms.{below_here, below_after, narrow_after, split_terms_at}
use Rattle.lp_frame.proofs.form.split_terms.Goals as goal

pub push_split-requires-clause-few : goal.push_split-requires-clause-few
push_split-requires-clause-few c =
    let cols = c.args.cols.now in
    let ts = c.args.terms.now in
    let within : c.loop-term.term-index < length c.args.terms.now = omega arith in
    let below = below_here (length cols) ts c.loop-term.term-index (0, pos 0) within c.loop-term.invariant.below in
    let id = (get_or ts c.loop-term.term-index (0, pos 0)).0 in
    let read = c.requires.places.each id below in
    let last = place_within cols id below in
    let some = width_some (sign_at cols id) in
    omega (arith, read, last, some, c.requires.few)

pub loop-term-preserved : goal.loop-term-preserved
loop-term-preserved c =
    let cols = c.args.cols.now in
    let ts = c.args.terms.now in
    let i = c.loop-term.term-index in
    let within : c.loop-term.term-index < length c.args.terms.now = omega arith in
    let below = below_here (length cols) ts i (0, pos 0) within c.loop-term.invariant.below in
    let id = (get_or ts i (0, pos 0)).0 in
    let fits : FitsSigned w128 (get_or c.args.terms.now c.loop-term.term-index (0, pos 0)).1 = search rules in
    let pushed = simp to_z-of_z at c.in_ok-push_split.ensures in
    let read = rw (sign_read cols id past_end below, c.requires.places.each id below) at pushed in
    record {
      below = below_after (length cols) ts i (0, pos 0) within c.loop-term.invariant.below;
      narrow = narrow_after ts i (0, pos 0) within c.loop-term.invariant.narrow;
      rest = rw (read, append_assoc, ← split_terms_at cols ts i (0, pos 0) within) c.loop-term.invariant.rest;
    }
