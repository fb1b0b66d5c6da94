use Rattle.gdp_tables.proofs.ExactLemmas.{not_exact}
use Rattle.gdp_tables.proofs.laws.not_is_exact.Goals as goal

pub returns : goal.returns
returns c = not_exact
