use Rattle.exact_simplex.proofs.Certificates.{infeasible_refutes}
use Rattle.exact_simplex.proofs.laws.infeasible_refutes.Goals as goal

pub returns : goal.returns
returns c = infeasible_refutes
