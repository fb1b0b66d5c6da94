use Rattle.gdp_tables.proofs.ExactLemmas.{same_exact}
use Rattle.gdp_tables.proofs.laws.same_is_exact.Goals as goal

pub returns : goal.returns
returns c = same_exact
