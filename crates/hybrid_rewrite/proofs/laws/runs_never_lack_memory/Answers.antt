use Rattle.hybrid_rewrite.proofs.Lacking.{runs_never_lack_memory as law}
use Rattle.hybrid_rewrite.proofs.laws.runs_never_lack_memory.Goals as goal

pub returns : goal.returns
returns c = law
