use Rattle.gdp_grammar.proofs.PointNames.{one_line_each}
use Rattle.gdp_grammar.proofs.point_laws.one_line_each.Goals as goal

pub returns : goal.returns
returns c = one_line_each
