use Rattle.exact_simplex.proofs.PivotRows.{one_wide_place}
use Rattle.exact_simplex.proofs.laws.wide_at_one_place.Goals as goal

pub returns : goal.returns
returns c = λ t enter leave row column i j s e w v. one_wide_place t s enter leave row column i j e w v
