use Rattle.gdp_grammar.proofs.PointOnce.{point_or_bad}
use Rattle.gdp_grammar.proofs.point_laws.point_or_bad.Goals as goal

pub returns : goal.returns
returns c = point_or_bad
