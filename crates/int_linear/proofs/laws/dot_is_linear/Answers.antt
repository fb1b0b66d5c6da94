use Rattle.int_linear.proofs.Dots.{dot_add, dot_scale, dot-scaled}
use Rattle.int_linear.proofs.laws.dot_is_linear.Goals as goal

pub returns : goal.returns
returns c = record { sums = dot_add; multiples = dot_scale; scaled_terms = dot-scaled }
