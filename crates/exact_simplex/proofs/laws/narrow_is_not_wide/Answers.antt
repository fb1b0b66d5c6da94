use Rattle.exact_simplex.proofs.PivotRows.{narrow_not_wide}
use Rattle.exact_simplex.proofs.laws.narrow_is_not_wide.Goals as goal

pub returns : goal.returns
returns c = λ t enter leave row column s e m w. narrow_not_wide t s enter leave e row column m w
