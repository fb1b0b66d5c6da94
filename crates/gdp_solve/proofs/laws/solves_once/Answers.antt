use Rattle.gdp_solve.proofs.SolvesOnce.{solves_once}
use Rattle.gdp_solve.proofs.laws.solves_once.Goals as goal

pub returns : goal.returns
returns c = solves_once
