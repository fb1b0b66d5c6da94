use lib.IntN.{*ℤ_comm}
use Rattle.int_linear.proofs.Ring.{mul_add, mul_assoc}
use Rattle.int_linear.proofs.laws.products_spread.Goals as goal

pub returns : goal.returns
returns c = record { over_sums = mul_add; grouping = mul_assoc; order = *ℤ_comm }
