use Rattle.gdp_grammar.proofs.PointOnce.{never_point_and_bad}
use Rattle.gdp_grammar.proofs.point_laws.never_point_and_bad.Goals as goal

pub returns : goal.returns
returns c = never_point_and_bad
