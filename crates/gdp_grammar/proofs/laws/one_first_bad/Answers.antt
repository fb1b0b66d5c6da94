use Rattle.gdp_grammar.proofs.Once.{one_first_bad}
use Rattle.gdp_grammar.proofs.laws.one_first_bad.Goals as goal

pub returns : goal.returns
returns c = one_first_bad
