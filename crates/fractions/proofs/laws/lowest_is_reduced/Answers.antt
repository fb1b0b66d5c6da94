use Rattle.fractions.proofs.LowestLemmas.{lowest_reduced}
use Rattle.fractions.proofs.laws.lowest_is_reduced.Goals as goal

pub returns : goal.returns
returns c = lowest_reduced
