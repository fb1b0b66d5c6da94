use Rattle.std.proofs.Common.{◌≡◌, ◌++◌, drop, take, true}
use Rattle.text_grammar.specs.Printing.{spaced}
use Rattle.cert_grammar.specs.Nodes.{pair_words, are_short}
use Rattle.cert_writer.proofs.tree.put_pairs.Given as goal

abbrev pub invariant-loop-pair : goal.invariant-loop-pair
invariant-loop-pair l = record {
  written : l.text ++ spaced (pair_words (drop l.pair-index l.mults)) ≡ l.fn.text ++ spaced (pair_words l.mults);
  fit : are_short (take l.pair-index l.mults) ≡ true;
}
