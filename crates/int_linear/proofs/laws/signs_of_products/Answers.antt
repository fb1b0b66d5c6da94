use Rattle.int_linear.proofs.Ring.{mul_pos}
use Rattle.int_linear.proofs.Signs.{mul_both_negative, mul_negative}
use Rattle.int_linear.proofs.laws.signs_of_products.Goals as goal

pub returns : goal.returns
returns c = record { both_positive = mul_pos; both_negative = mul_both_negative; apart = mul_negative }
