use Rattle.std.proofs.Common.{sym, ap, ◌∙◌, drop, ◌+◌, ℕ}
use Rattle.text_grammar.specs.Digits.{value_after}
use Rattle.gdp_lines.proofs.Values.{stays_past, decimal_more}
use Rattle.gdp_lines.proofs.value.size_after.Goals as goal

pub returns-then-size-gt-LIMIT : goal.returns-then-size-gt-LIMIT
returns-then-size-gt-LIMIT c =
    let rest = drop (c.digits.digit-index + 1) c.args.digits.now in
    sym (stays_past c.push_digit-size.result (value_after c.args.before c.args.digits.now) rest
    (ap (λ (n : ℕ). value_after n rest) c.push_digit-size.ensures ∙ sym (decimal_more c.args.digits.now c.digits.digit-index c.digits.size c.digits-test.true) ∙ c.digits.invariant.so_far)
    c.if-size-gt-LIMIT.true)
