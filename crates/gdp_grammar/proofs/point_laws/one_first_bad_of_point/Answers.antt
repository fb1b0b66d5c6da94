use Rattle.gdp_grammar.proofs.PointOnce.{one_first_bad_of_point}
use Rattle.gdp_grammar.proofs.point_laws.one_first_bad_of_point.Goals as goal

pub returns : goal.returns
returns c = one_first_bad_of_point
