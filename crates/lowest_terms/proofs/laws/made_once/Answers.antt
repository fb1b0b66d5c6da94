use Rattle.lowest_terms.proofs.Once.{made_once}
use Rattle.lowest_terms.proofs.laws.made_once.Goals as goal

pub returns : goal.returns
returns c = made_once
