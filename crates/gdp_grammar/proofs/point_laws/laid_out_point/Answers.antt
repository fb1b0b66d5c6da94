use Rattle.gdp_grammar.proofs.PointGrown.{laid_out_point}
use Rattle.gdp_grammar.proofs.point_laws.laid_out_point.Goals as goal

pub returns : goal.returns
returns c = laid_out_point
