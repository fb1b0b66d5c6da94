use Rattle.gdp_grammar.proofs.OwnedLines.{owned_found}
use Rattle.gdp_grammar.proofs.nesting_laws.owned_found.Goals as goal

pub returns : goal.returns
returns c = owned_found
