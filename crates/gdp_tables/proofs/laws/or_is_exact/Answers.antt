use Rattle.gdp_tables.proofs.ExactLemmas.{or_exact}
use Rattle.gdp_tables.proofs.laws.or_is_exact.Goals as goal

pub returns : goal.returns
returns c = or_exact
