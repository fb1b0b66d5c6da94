use Rattle.gdp_grammar.proofs.Respelled.{canonical_spells}
use Rattle.gdp_grammar.proofs.canonical_laws.canonical_spells.Goals as goal

pub returns : goal.returns
returns c = canonical_spells
