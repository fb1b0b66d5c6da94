use Rattle.std.proofs.Common.{ℕ, sym, ◌∙◌, drop, get_or, ◌+◌, ◌-◌, ◌*◌, ◌≡◌, arith}
use Rattle.text_grammar.specs.Digits.{value_after}
use Rattle.text_reader.proofs.DigitsMore.{value_grows, value_more}
use Rattle.text_reader.proofs.digits.size_of.Goals as goal

pub returns-in-None-clause-none : goal.returns-in-None-clause-none
returns-in-None-clause-none c =
    let next : ℕ = c.digits.size * 10 + (get_or c.args.digits.now c.digits.digit-index 0 - 48) in
    let rest = drop (c.digits.digit-index + 1) c.args.digits.now in
    let same : value_after next rest ≡ value_after 0 c.args.digits.now = sym (value_more c.args.digits.now c.digits.digit-index c.digits.size c.digits-test.true) ∙ c.digits.invariant in
    omega (arith, c.in-None.ensures.none, value_grows next rest, same)
