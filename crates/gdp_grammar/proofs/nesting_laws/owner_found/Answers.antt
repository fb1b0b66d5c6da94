use Rattle.gdp_grammar.proofs.Owned.{owner_found}
use Rattle.gdp_grammar.proofs.nesting_laws.owner_found.Goals as goal

pub returns : goal.returns
returns c = owner_found
