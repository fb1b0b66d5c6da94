use Rattle.logic_to_rows.proofs.Propositions.{propositions_are_exact as law}
use Rattle.logic_to_rows.proofs.laws.propositions_are_exact.Goals as goal

pub returns : goal.returns
returns c = law
