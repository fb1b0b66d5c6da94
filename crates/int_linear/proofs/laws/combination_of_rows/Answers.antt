use Rattle.int_linear.proofs.Inner.{inner_total}
use Rattle.int_linear.proofs.laws.combination_of_rows.Goals as goal

pub returns : goal.returns
returns c = inner_total
