use Rattle.std.proofs.Common.{ap, ◌∙◌}
use Rattle.emission.specs.Literals.{plain as plain_of}
use Rattle.emission.specs.View.{state_of}
use Rattle.logic_to_rows.specs.Emitted.{all_rows}
use Rattle.logic_to_rows.proofs.Listed.{bit_rows, bit_literal}
use Rattle.logic_to_rows.proofs.connectives.conjunction.Goals as goal

pub returns-clause-runs : goal.returns-clause-runs
returns-clause-runs c = λ p.
    bit_rows p (λ z. all_rows z c.args.ls.now) (state_of c.args.out.now) (state_of c.new_bit-z.new.out) (state_of c.all_rows.new.out) c.new_bit-z.result (c.new_bit-z.ensures.runs p) c.new_bit-z.ensures.id c.all_rows.ensures.runs

pub returns-clause-literal : goal.returns-clause-literal
returns-clause-literal c = λ e.
    c.plain.ensures ∙ ap plain_of (bit_literal (λ z. all_rows z c.args.ls.now) (state_of c.new_bit-z.new.out) (state_of c.all_rows.new.out) c.new_bit-z.result _ c.all_rows.ensures.runs c.new_bit-z.ensures.id e)
