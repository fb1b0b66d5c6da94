use Rattle.std.proofs.Common.{pos, [], ◌∷◌}
use Rattle.lp_rows.specs.declared.kinds.Rel.TheVariants.{AtMost}
use Rattle.emission.specs.Items.{stand}
use Rattle.emission.specs.Literals.{literal_times}
use Rattle.emission.specs.Sums.{plus, column, number, minus}
use Rattle.emission.specs.View.{state_of}
use Rattle.emission.proofs.Running.{runs_then}
use Rattle.logic_to_rows.proofs.bits.same_rows.Goals as goal

pub returns-clause-runs : goal.returns-clause-runs
unfolding minus
returns-clause-runs c =
    let z = c.args.z in
    let p = c.args.p in
    let q = c.args.q in
    let r1 = stand AtMost (plus (column (pos 1) z) (plus (literal_times (pos 1) p) (plus (literal_times minus q) (number minus)))) in
    let r2 = stand AtMost (plus (column (pos 1) z) (plus (literal_times minus p) (plus (literal_times (pos 1) q) (number minus)))) in
    let r3 = stand AtMost (plus (column minus z) (plus (literal_times (pos 1) p) (plus (literal_times (pos 1) q) (number minus)))) in
    let r4 = stand AtMost (plus (column minus z) (plus (literal_times minus p) (plus (literal_times minus q) (number (pos 1))))) in
    let s1 = state_of c.same_row.new.out in
    let s2 = state_of c.same_row-2.new.out in
    let s3 = state_of c.same_row-3.new.out in
    let s4 = state_of c.same_row-4.new.out in
    runs_then (r1 ∷ []) (r2 ∷ r3 ∷ r4 ∷ []) (state_of c.args.out.now) s1 s4 c.same_row.ensures.runs
    (runs_then (r2 ∷ []) (r3 ∷ r4 ∷ []) s1 s2 s4 c.same_row-2.ensures.runs
    (runs_then (r3 ∷ []) (r4 ∷ []) s2 s3 s4 c.same_row-3.ensures.runs c.same_row-4.ensures.runs))
