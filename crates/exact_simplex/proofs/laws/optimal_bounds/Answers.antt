use Rattle.exact_simplex.proofs.Certificates.{optimal_bounds}
use Rattle.exact_simplex.proofs.laws.optimal_bounds.Goals as goal

pub returns : goal.returns
returns c = optimal_bounds
