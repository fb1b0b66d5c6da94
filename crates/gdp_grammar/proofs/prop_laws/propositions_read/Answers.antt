use Rattle.gdp_grammar.proofs.PropMachine.{propositions_read}
use Rattle.gdp_grammar.proofs.prop_laws.propositions_read.Goals as goal

pub returns : goal.returns
returns c = propositions_read
