use Rattle.std.proofs.Common.{refl}
use Rattle.std.specs.Fmt.{digits}
use Rattle.gdp_grammar.specs.Canonical.{canonical_text}
use Rattle.gdp_grammar.specs.Lowest.{greatest_divisor}
use Rattle.model_maker.proofs.laws.first_text.Goals as goal

pub returns : goal.returns
unfolding canonical_text greatest_divisor digits
returns c = refl
