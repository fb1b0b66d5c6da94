use Rattle.model_items.proofs.ForceLemmas.{point_meets_force as law}
use Rattle.model_items.proofs.laws.point_meets_force.Goals as goal

pub returns : goal.returns
returns c = law
