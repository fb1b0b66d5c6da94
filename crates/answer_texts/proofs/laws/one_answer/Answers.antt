use Rattle.answer_texts.proofs.ReadAgain as again
use Rattle.answer_texts.proofs.laws.one_answer.Goals as goal

pub returns : goal.returns
returns c = again.one_answer
