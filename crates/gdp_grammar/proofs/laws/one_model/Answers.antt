use Rattle.gdp_grammar.proofs.Once.{one_model}
use Rattle.gdp_grammar.proofs.laws.one_model.Goals as goal

pub returns : goal.returns
returns c = one_model
