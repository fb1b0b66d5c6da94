use Rattle.search_rules.proofs.AnswersOnce.{one_answer_of_log}
use Rattle.search_rules.proofs.laws.one_answer_of_log.Goals as goal

pub returns : goal.returns
returns c = one_answer_of_log
