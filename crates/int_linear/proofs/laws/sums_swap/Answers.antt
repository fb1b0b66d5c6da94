use Rattle.int_linear.proofs.Totals.{total_swap}
use Rattle.int_linear.proofs.laws.sums_swap.Goals as goal

pub returns : goal.returns
returns c = total_swap
