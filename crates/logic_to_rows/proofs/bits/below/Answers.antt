use Rattle.std.proofs.Common.{pos}
use Rattle.lp_rows.specs.declared.kinds.Rel.TheVariants.{AtMost}
use Rattle.emission.specs.Literals.{literal_times}
use Rattle.emission.specs.Sums.{plus, column, minus}
use Rattle.emission.specs.View.{status_of, state_of}
use Rattle.emission.proofs.Running.{adds_then, adds_stand}
use Rattle.logic_to_rows.proofs.bits.below.Goals as goal

pub returns-clause-runs : goal.returns-clause-runs
unfolding minus
returns-clause-runs c =
    adds_stand AtMost (plus (column (pos 1) c.args.z) (literal_times minus c.args.l)) (status_of c.args.out.now) (status_of c.add_literal.new.self) (state_of c.stand.new.self) c.requires
    (adds_then (column (pos 1) c.args.z) (literal_times minus c.args.l) (status_of c.args.out.now) (status_of c.add.new.self) (status_of c.add_literal.new.self) c.add.ensures.adds c.add_literal.ensures.adds)
    c.stand.ensures.runs
