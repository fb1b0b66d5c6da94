use Rattle.answer_texts.proofs.Named as named
use Rattle.answer_texts.proofs.laws.model_names.Goals as goal

pub returns : goal.returns
returns c = named.model_names
