use Rattle.search_rules.proofs.Readings.{one_log_one_stage}
use Rattle.search_rules.proofs.laws.one_stage.Goals as goal

pub returns : goal.returns
returns c = one_log_one_stage
