use Rattle.model_items.proofs.ItemsLemmas.{point_meets}
use Rattle.model_items.proofs.laws.point_meets_conditions.Goals as goal

pub returns : goal.returns
returns c = point_meets
