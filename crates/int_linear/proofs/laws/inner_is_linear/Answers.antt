use Rattle.int_linear.proofs.Inner.{inner_combine_sum}
use Rattle.int_linear.proofs.laws.inner_is_linear.Goals as goal

pub returns : goal.returns
returns c = inner_combine_sum
