use Rattle.lp_tokens.proofs.Digits.{place_bounded}
use Rattle.lp_tokens.proofs.value.place.Goals as goal

pub returns-clause-bounded : goal.returns-clause-bounded
returns-clause-bounded c = c.reduced-quotient.ensures.bounded (place_bounded c.digit_value-value.result c.args.behind.0 c.args.behind.1 c.digit_value-value.ensures.small c.requires.bounded)
