use Rattle.gdp_grammar.proofs.WorkedPoints.{worked_points}
use Rattle.gdp_grammar.proofs.point_laws.worked_points.Goals as goal

pub returns : goal.returns
returns c = worked_points
