use Rattle.int_linear.proofs.Divisors.{primitive_divided}
use Rattle.int_linear.proofs.laws.divided_is_primitive.Goals as goal

pub returns : goal.returns
returns c = primitive_divided
