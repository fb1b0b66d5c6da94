use Rattle.std.proofs.Common.{[], ◌∷◌, ap, ◌∙◌, subst}
use Rattle.propositions.specs.Tree.{implies, paired}
use Rattle.emission.specs.Literals.{plain as plain_of, flip as flip_of}
use Rattle.emission.specs.Run.{Runs}
use Rattle.emission.specs.View.{state_of}
use Rattle.logic_to_rows.specs.Emitted.{some_rows}
use Rattle.logic_to_rows.proofs.Listed.{bit_rows, bit_literal}
use Rattle.logic_to_rows.proofs.connectives.implication.Goals as goal

pub returns-clause-runs : goal.returns-clause-runs
returns-clause-runs c = λ p q.
    let r = subst (λ l. Runs (some_rows c.new_bit-z.result (l ∷ c.args.b ∷ [])) (state_of c.new_bit-z.new.out) (state_of c.some_rows.new.out)) c.flip.ensures c.some_rows.ensures.runs in
    bit_rows (paired implies p q) (λ z. some_rows z (flip_of c.args.a ∷ c.args.b ∷ [])) (state_of c.args.out.now) (state_of c.new_bit-z.new.out) (state_of c.some_rows.new.out) c.new_bit-z.result (c.new_bit-z.ensures.runs (paired implies p q)) c.new_bit-z.ensures.id r

pub returns-clause-literal : goal.returns-clause-literal
returns-clause-literal c = λ e.
    let r = subst (λ l. Runs (some_rows c.new_bit-z.result (l ∷ c.args.b ∷ [])) (state_of c.new_bit-z.new.out) (state_of c.some_rows.new.out)) c.flip.ensures c.some_rows.ensures.runs in
    c.plain.ensures ∙ ap plain_of (bit_literal (λ z. some_rows z (flip_of c.args.a ∷ c.args.b ∷ [])) (state_of c.new_bit-z.new.out) (state_of c.some_rows.new.out) c.new_bit-z.result _ r c.new_bit-z.ensures.id e)
