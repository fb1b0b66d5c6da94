-- The worked canonical texts, computed.
use Rattle.std.proofs.Common.{◌≡◌, refl}
use Rattle.std.specs.Fmt.{digits}
use Rattle.gdp_grammar.specs.Canonical.{canonical_text}
use Rattle.gdp_grammar.specs.CanonicalLaws.{CanonicalTexts}
use Rattle.gdp_grammar.specs.CanonicalWorked as worked
use Rattle.gdp_grammar.specs.Lowest.{greatest_divisor}

plant : canonical_text worked.plant ≡ worked.plant_text
unfolding canonical_text greatest_divisor digits
plant = refl

nest : canonical_text worked.nest ≡ worked.nest_text
unfolding canonical_text greatest_divisor digits
nest = refl

alone : canonical_text worked.alone ≡ worked.alone_text
unfolding canonical_text greatest_divisor digits
alone = refl

pub canonical_texts : CanonicalTexts
canonical_texts = record { plant = plant; nest = nest; alone = alone }
