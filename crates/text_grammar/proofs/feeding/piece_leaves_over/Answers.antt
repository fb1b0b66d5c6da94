use Rattle.text_grammar.proofs.FeedingLemmas.{piece_leaves_over}
use Rattle.text_grammar.proofs.feeding.piece_leaves_over.Goals as goal

pub returns : goal.returns
returns c = piece_leaves_over
