use Rattle.gdp_grammar.proofs.WorkedPoints.{worked_owners}
use Rattle.gdp_grammar.proofs.nesting_laws.worked_owners.Goals as goal

pub returns : goal.returns
returns c = worked_owners
