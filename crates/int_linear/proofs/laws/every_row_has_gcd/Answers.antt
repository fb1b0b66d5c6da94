use Rattle.int_linear.proofs.Divisors.{every_row}
use Rattle.int_linear.proofs.laws.every_row_has_gcd.Goals as goal

pub returns : goal.returns
returns c = every_row
