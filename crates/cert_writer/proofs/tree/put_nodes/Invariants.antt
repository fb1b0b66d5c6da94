use Rattle.std.proofs.Common.{◌≡◌, ◌++◌, length}
use Rattle.std.specs.List.{list_all}
use Rattle.cert_grammar.specs.Nodes.{node_fits}
use Rattle.cert_grammar.specs.Trees.{tree_lines}
use Rattle.cert_writer.specs.Parts.{words_text}
use Rattle.cert_writer.proofs.tree.put_nodes.Given as goal

abbrev pub invariant-nodes : goal.invariant-nodes
invariant-nodes l = record {
  written : l.text ++ words_text (tree_lines l.left) ≡ l.fn.text ++ words_text (tree_lines l.initial.left);
  fit : list_all node_fits l.left ≡ list_all node_fits l.initial.left;
}

abbrev pub decreases-nodes : goal.decreases-nodes
decreases-nodes l = length l.left
