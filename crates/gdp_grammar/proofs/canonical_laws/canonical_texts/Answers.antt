use Rattle.gdp_grammar.proofs.Printouts.{canonical_texts}
use Rattle.gdp_grammar.proofs.canonical_laws.canonical_texts.Goals as goal

pub returns : goal.returns
returns c = canonical_texts
