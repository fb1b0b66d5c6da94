use Rattle.std.proofs.Common.{sym, ◌∙◌}
use Rattle.answer_tests.proofs.Values.{not_value}
use Rattle.answer_tests.proofs.testing.test_value.Goals as goal

pub returns-else-eq : goal.returns-else-eq
returns-else-eq c =
    not_value c.args.model.now.goal c.args.at.now c.in-Ok.own c.args.given c.in-Ok.ensures.value c.den-given.ensures.lowest c.in-Ok.ensures.fits (sym c.eq.ensures ∙ c.if-eq.false)
