use Rattle.search_rules.proofs.AnswersOnce.{answers_once}
use Rattle.search_rules.proofs.laws.answers_once.Goals as goal

pub returns : goal.returns
returns c = answers_once
