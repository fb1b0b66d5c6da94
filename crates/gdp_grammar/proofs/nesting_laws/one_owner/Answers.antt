use Rattle.gdp_grammar.proofs.Owned.{one_owner}
use Rattle.gdp_grammar.proofs.nesting_laws.one_owner.Goals as goal

pub returns : goal.returns
returns c = one_owner
