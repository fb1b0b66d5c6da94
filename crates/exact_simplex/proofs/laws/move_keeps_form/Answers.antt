use Rattle.exact_simplex.proofs.Moving.{move_keeps_form}
use Rattle.exact_simplex.proofs.laws.move_keeps_form.Goals as goal

pub returns : goal.returns
returns c = move_keeps_form
