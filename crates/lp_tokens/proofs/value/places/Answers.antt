use Rattle.std.proofs.Common.{Some}
use Rattle.lp_tokens.proofs.Digits.{none_here}
use Rattle.lp_tokens.proofs.value.places.Goals as goal

pub returns-in-None-clause-places : goal.returns-in-None-clause-places
returns-in-None-clause-places c = none_here c.places.end c.args.digits.now c.places.quotient (Some c.args.behind) c.places-test.true c.places.invariant.within c.places.invariant.so_far c.in-None.ensures.place
