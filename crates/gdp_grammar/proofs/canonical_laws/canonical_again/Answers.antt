use Rattle.gdp_grammar.proofs.Respelled.{canonical_again}
use Rattle.gdp_grammar.proofs.canonical_laws.canonical_again.Goals as goal

pub returns : goal.returns
returns c = canonical_again
