use Rattle.text_grammar.proofs.FeedingLemmas.{piece_adds_lines}
use Rattle.text_grammar.proofs.feeding.piece_adds_lines.Goals as goal

pub returns : goal.returns
returns c = piece_adds_lines
