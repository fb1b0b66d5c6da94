use Rattle.gdp_grammar.proofs.Once.{spelled_or_bad}
use Rattle.gdp_grammar.proofs.laws.spelled_or_bad.Goals as goal

pub returns : goal.returns
returns c = spelled_or_bad
