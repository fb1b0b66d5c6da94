use Rattle.text_grammar.proofs.FeedingLemmas.{any_pieces}
use Rattle.text_grammar.proofs.feeding.any_pieces.Goals as goal

pub returns : goal.returns
returns c = any_pieces
