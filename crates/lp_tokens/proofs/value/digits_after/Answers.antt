use Rattle.std.proofs.Common.{sym, ap, ◌∙◌, drop, ◌+◌, ℕ}
use Rattle.text_grammar.specs.Digits.{value_after}
use Rattle.lp_tokens.proofs.Digits.{stays_past, value_more}
use Rattle.lp_tokens.proofs.value.digits_after.Goals as goal

pub returns-then-size-gt-LIMIT-clause-size : goal.returns-then-size-gt-LIMIT-clause-size
returns-then-size-gt-LIMIT-clause-size c =
    let rest = drop (c.digits.digit-index + 1) c.args.digits.now in
    sym (stays_past c.push_digit-size.result (value_after c.args.before c.args.digits.now) rest
    (ap (λ (n : ℕ). value_after n rest) c.push_digit-size.ensures ∙ sym (value_more c.args.digits.now c.digits.digit-index c.digits.size c.digits-test.true) ∙ c.digits.invariant.so_far)
    c.if-size-gt-LIMIT.true)
