use Rattle.std.proofs.Common.{ap, ◌∙◌}
use Rattle.propositions.specs.Tree.{equivalent, paired}
use Rattle.emission.specs.Literals.{plain as plain_of}
use Rattle.emission.specs.View.{state_of}
use Rattle.logic_to_rows.specs.Emitted.{same_rows}
use Rattle.logic_to_rows.proofs.Listed.{bit_rows, bit_literal}
use Rattle.logic_to_rows.proofs.connectives.equivalence.Goals as goal

pub returns-clause-runs : goal.returns-clause-runs
returns-clause-runs c = λ p q.
    bit_rows (paired equivalent p q) (λ z. same_rows z c.args.a c.args.b) (state_of c.args.out.now) (state_of c.new_bit-z.new.out) (state_of c.same_rows.new.out) c.new_bit-z.result (c.new_bit-z.ensures.runs (paired equivalent p q)) c.new_bit-z.ensures.id c.same_rows.ensures.runs

pub returns-clause-literal : goal.returns-clause-literal
returns-clause-literal c = λ e.
    c.plain.ensures ∙ ap plain_of (bit_literal (λ z. same_rows z c.args.a c.args.b) (state_of c.new_bit-z.new.out) (state_of c.same_rows.new.out) c.new_bit-z.result _ c.same_rows.ensures.runs c.new_bit-z.ensures.id e)
