use Rattle.std.proofs.Common.{◌≡◌, rules, None, true, Err, length}
use Rattle.outcomes.specs.Calls.{Acts}
use Rattle.milps.specs.declared.builder.MilpError.TheVariants.{Memory}
use Rattle.milps.specs.Building.{row_outcome}
use Rattle.emission.specs.Run.{is_fit}
use Rattle.emission.specs.Sums.{row_of}
use Rattle.emission.specs.View.{state_of, open_sum}
use Rattle.emission.proofs.Running.{row_refused}
use Rattle.emission.proofs.emitter.Emitter.stand.Goals as goal

pub returns-in-Err-clause-runs : goal.returns-in-Err-clause-runs
returns-in-Err-clause-runs c =
    let r = row_of c.args.rel (open_sum c.args.self.now) in
    let s = state_of c.args.self.now in
    let h : s.halt ≡ None = search rules in
    let f : is_fit (length s.milp.cols) r.terms ≡ true = search rules in
    let a : Acts Memory s.milp (row_outcome r s.milp) (Err c.in-Err.error) c.push_row.new.self = search rules in
    let g = row_refused r s c.push_row.new.self c.in-Err.error h f a in
    rw c.halt_of.ensures g
