use Rattle.text_grammar.proofs.FeedingLemmas.{whole_and_left}
use Rattle.text_grammar.proofs.feeding.whole_and_left.Goals as goal

pub returns : goal.returns
returns c = whole_and_left
