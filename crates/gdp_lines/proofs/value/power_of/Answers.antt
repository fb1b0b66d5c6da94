use Rattle.std.proofs.Common.{ap, ◌∙◌, ℕ, Option, Some}
use Rattle.gdp_lines.proofs.Values.{power_past, power_within}
use Rattle.gdp_lines.proofs.value.power_of.Goals as goal

some_of : ℕ → Option ℕ
some_of n = Some n

pub returns-then-places-gt-PLACES : goal.returns-then-places-gt-PLACES
returns-then-places-gt-PLACES c = power_past c.args.places c.if-places-gt-PLACES.true

pub returns : goal.returns
unfolding some_of
returns c = ap some_of c.pow.ensures ∙ power_within c.args.places c.if-places-gt-PLACES.false
