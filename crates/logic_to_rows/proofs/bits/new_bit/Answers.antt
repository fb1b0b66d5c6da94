use Rattle.std.proofs.Common.{pos, [], ◌∷◌, length, ap, ◌∙◌}
use Rattle.lp_rows.specs.declared.kinds.Rel.TheVariants.{AtMost}
use Rattle.emission.specs.Items.{stand, col, truth, binary}
use Rattle.emission.specs.Sums.{plus, column, number, minus}
use Rattle.emission.specs.View.{status_of, state_of}
use Rattle.emission.proofs.Running.{adds_then, adds_stand, runs_then, runs_as}
use Rattle.logic_to_rows.proofs.bits.new_bit.Goals as goal

pub returns-clause-runs : goal.returns-clause-runs
unfolding minus
returns-clause-runs c = λ p.
    let z = c.push_col-z.result in
    let n = length (state_of c.args.out.now).milp.cols in
    let one = status_of c.push_col-z.new.self in
    let made = adds_stand AtMost (plus (column (pos 1) z) (number minus)) one (status_of c.add_number.new.self) (state_of c.stand.new.self) (c.push_col-z.ensures.open ∙ c.requires)
    (adds_then (column (pos 1) z) (number minus) one (status_of c.add.new.self) (status_of c.add_number.new.self) c.add.ensures.adds c.add_number.ensures.adds)
    c.stand.ensures.runs in
    runs_then (col n binary (truth p) ∷ []) (stand AtMost (plus (column (pos 1) n) (number minus)) ∷ []) (state_of c.args.out.now) one.state (state_of c.stand.new.self)
    (c.push_col-z.ensures.runs (truth p))
    (runs_as (stand AtMost (plus (column (pos 1) z) (number minus)) ∷ []) _ one.state (state_of c.stand.new.self) (λ h. ap (λ i. stand AtMost (plus (column (pos 1) i) (number minus)) ∷ []) (c.push_col-z.ensures.id h)) made)
