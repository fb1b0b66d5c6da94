use Rattle.gdp_grammar.proofs.Nests.{nested_as_spelled}
use Rattle.gdp_grammar.proofs.nesting_laws.nested_as_spelled.Goals as goal

pub returns : goal.returns
returns c = nested_as_spelled
