use Rattle.model_items.proofs.ForceLemmas.{conditions_make_points as law}
use Rattle.model_items.proofs.laws.conditions_make_points.Goals as goal

pub returns : goal.returns
returns c = law
