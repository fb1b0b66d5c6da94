use Rattle.gdp_solve.proofs.Right.{claims_are_right}
use Rattle.gdp_solve.proofs.laws.claims_are_right.Goals as goal

pub returns : goal.returns
returns c = claims_are_right
