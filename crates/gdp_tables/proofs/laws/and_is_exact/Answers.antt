use Rattle.gdp_tables.proofs.ExactLemmas.{and_exact}
use Rattle.gdp_tables.proofs.laws.and_is_exact.Goals as goal

pub returns : goal.returns
returns c = and_exact
