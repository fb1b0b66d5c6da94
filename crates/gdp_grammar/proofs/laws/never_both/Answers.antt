use Rattle.gdp_grammar.proofs.Once.{never_both}
use Rattle.gdp_grammar.proofs.laws.never_both.Goals as goal

pub returns : goal.returns
returns c = never_both
