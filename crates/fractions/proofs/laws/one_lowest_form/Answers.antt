use Rattle.fractions.proofs.Reduction.{reduced_same}
use Rattle.fractions.proofs.laws.one_lowest_form.Goals as goal

pub returns : goal.returns
returns c = reduced_same
