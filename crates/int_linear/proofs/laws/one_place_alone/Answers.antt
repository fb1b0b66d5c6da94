use Rattle.int_linear.proofs.Totals.{total_only}
use Rattle.int_linear.proofs.laws.one_place_alone.Goals as goal

pub returns : goal.returns
returns c = total_only
