use Rattle.std.proofs.Common.{◌≡◌, length, true}
use Rattle.cert_grammar.specs.Nodes.{pairs_from}
use Rattle.cert_lines.specs.Pairs.{is_row, pairs_read, pairs_after}
use Rattle.cert_lines.proofs.pairs.read_pairs.Given as goal

abbrev pub invariant-words : goal.invariant-words
invariant-words l = record {
  whole : pairs_after l.fits l.mults l.last l.left ≡ pairs_read (pairs_from 0 l.fn.words);
  row : is_row l.last ≡ true;
}

abbrev pub decreases-words : goal.decreases-words
decreases-words l = length l.left
