use Rattle.std.proofs.Common.{ap, ◌∙◌}
use Rattle.propositions.specs.Tree.{some_of, listed}
use Rattle.emission.specs.Literals.{plain as plain_of}
use Rattle.emission.specs.View.{state_of}
use Rattle.logic_to_rows.specs.Emitted.{some_rows}
use Rattle.logic_to_rows.proofs.Listed.{bit_rows, bit_literal}
use Rattle.logic_to_rows.proofs.connectives.disjunction.Goals as goal

pub returns-clause-runs : goal.returns-clause-runs
returns-clause-runs c = λ ps.
    bit_rows (listed some_of ps) (λ z. some_rows z c.args.ls.now) (state_of c.args.out.now) (state_of c.new_bit-z.new.out) (state_of c.some_rows.new.out) c.new_bit-z.result (c.new_bit-z.ensures.runs (listed some_of ps)) c.new_bit-z.ensures.id c.some_rows.ensures.runs

pub returns-clause-literal : goal.returns-clause-literal
returns-clause-literal c = λ e.
    c.plain.ensures ∙ ap plain_of (bit_literal (λ z. some_rows z c.args.ls.now) (state_of c.new_bit-z.new.out) (state_of c.some_rows.new.out) c.new_bit-z.result _ c.some_rows.ensures.runs c.new_bit-z.ensures.id e)
