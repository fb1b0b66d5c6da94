use Rattle.std.proofs.Common.{pos, [], ◌∷◌}
use Rattle.lp_rows.specs.declared.kinds.Rel.TheVariants.{AtMost}
use Rattle.emission.specs.Items.{stand}
use Rattle.emission.specs.Literals.{literals_times}
use Rattle.emission.specs.Sums.{plus, column, minus}
use Rattle.emission.specs.View.{status_of, state_of}
use Rattle.emission.proofs.Running.{adds_then, adds_stand, runs_then}
use Rattle.logic_to_rows.specs.Emitted.{above_each as above_items}
use Rattle.logic_to_rows.proofs.bits.some_rows.Goals as goal

pub returns-clause-runs : goal.returns-clause-runs
unfolding minus
returns-clause-runs c =
    let z = c.args.z in
    let ls = c.args.ls.now in
    let last = plus (column (pos 1) z) (literals_times minus ls) in
    let p = status_of c.above_each.new.out in
    let q = status_of c.add.new.self in
    let t = status_of c.take_each.new.out in
    runs_then (above_items z ls) (stand AtMost last ∷ []) (state_of c.args.out.now) p.state (state_of c.stand.new.self) c.above_each.ensures.runs
    (adds_stand AtMost last p t (state_of c.stand.new.self) c.above_each.ensures.empty
    (adds_then (column (pos 1) z) (literals_times minus ls) p q t c.add.ensures.adds c.take_each.ensures.adds)
    c.stand.ensures.runs)
