use Rattle.search_rules.proofs.Deeper.{one_log}
use Rattle.search_rules.proofs.laws.one_log.Goals as goal

pub returns : goal.returns
returns c = one_log
