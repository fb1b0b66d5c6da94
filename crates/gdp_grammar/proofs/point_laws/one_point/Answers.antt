use Rattle.gdp_grammar.proofs.PointOnce.{one_point}
use Rattle.gdp_grammar.proofs.point_laws.one_point.Goals as goal

pub returns : goal.returns
returns c = one_point
