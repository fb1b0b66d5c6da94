use Rattle.exact_simplex.proofs.PivotRows.{named_pivot}
use Rattle.exact_simplex.proofs.laws.exchange_has_pivot_row.Goals as goal

pub returns : goal.returns
returns c = λ t enter leave s e. named_pivot t s enter leave e
