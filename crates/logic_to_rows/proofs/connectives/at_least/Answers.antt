use Rattle.std.proofs.Common.{ap, ◌∙◌}
use Rattle.propositions.specs.Tree.{at_least as least, listed}
use Rattle.emission.specs.Literals.{plain as plain_of}
use Rattle.emission.specs.View.{state_of}
use Rattle.logic_to_rows.specs.Emitted.{least_rows}
use Rattle.logic_to_rows.proofs.Listed.{bit_rows, bit_literal}
use Rattle.logic_to_rows.proofs.connectives.at_least.Goals as goal

pub returns-clause-runs : goal.returns-clause-runs
returns-clause-runs c = λ ps.
    bit_rows (listed (least c.args.n) ps) (λ z. least_rows c.args.n z c.args.ls.now) (state_of c.args.out.now) (state_of c.new_bit-z.new.out) (state_of c.least_rows.new.out) c.new_bit-z.result (c.new_bit-z.ensures.runs (listed (least c.args.n) ps)) c.new_bit-z.ensures.id c.least_rows.ensures.runs

pub returns-clause-literal : goal.returns-clause-literal
returns-clause-literal c = λ e.
    c.plain.ensures ∙ ap plain_of (bit_literal (λ z. least_rows c.args.n z c.args.ls.now) (state_of c.new_bit-z.new.out) (state_of c.least_rows.new.out) c.new_bit-z.result _ c.least_rows.ensures.runs c.new_bit-z.ensures.id e)
