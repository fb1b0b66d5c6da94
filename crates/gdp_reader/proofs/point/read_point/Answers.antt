use Rattle.model_tree.specs.Values.{model_tree}
use Rattle.gdp_reader.proofs.PointEndsLemmas.{found_point, only_point, refused_point}
use Rattle.gdp_reader.proofs.point.read_point.Goals as goal

pub returns-clause-found : goal.returns-clause-found
returns-clause-found c = found_point (model_tree c.args.model.now) c.args.text.now c.read_point_text.result c.read_point_text.ensures.given

pub returns-clause-only : goal.returns-clause-only
returns-clause-only c = only_point (model_tree c.args.model.now) c.args.text.now c.read_point_text.result c.read_point_text.ensures.given

pub returns-clause-refused : goal.returns-clause-refused
returns-clause-refused c = refused_point (model_tree c.args.model.now) c.args.text.now c.read_point_text.result c.read_point_text.ensures.given
