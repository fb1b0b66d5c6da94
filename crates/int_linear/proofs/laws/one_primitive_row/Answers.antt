use Rattle.int_linear.proofs.Divisors.{primitive_same_int}
use Rattle.int_linear.proofs.laws.one_primitive_row.Goals as goal

pub returns : goal.returns
returns c = primitive_same_int
