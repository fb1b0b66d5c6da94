use Rattle.rewrite_solving.proofs.SolvedOnce.{solved_once}
use Rattle.rewrite_solving.proofs.laws.solved_once.Goals as goal

pub returns : goal.returns
returns c = solved_once
