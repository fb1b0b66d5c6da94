use Rattle.log_writer.proofs.LogAgain as again
use Rattle.log_writer.proofs.laws.one_log.Goals as goal

pub returns : goal.returns
returns c = again.one_log
