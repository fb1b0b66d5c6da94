use Rattle.search_rules.proofs.OneAnswer.{one_answer}
use Rattle.search_rules.proofs.laws.one_answer.Goals as goal

pub returns : goal.returns
returns c = one_answer
