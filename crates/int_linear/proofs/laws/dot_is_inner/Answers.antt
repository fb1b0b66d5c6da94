use Rattle.int_linear.proofs.Dots.{dot_is_inner}
use Rattle.int_linear.proofs.laws.dot_is_inner.Goals as goal

pub returns : goal.returns
returns c = dot_is_inner
