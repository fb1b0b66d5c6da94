use Rattle.std.proofs.Common.{◌≡◌, ◌++◌, drop, map}
use Rattle.model_tree.specs.Values.{model_tree}
use Rattle.gdp_grammar.specs.Canonical.{row_line}
use Rattle.text_grammar.specs.Printing.{text_of}
use Rattle.model_tree.specs.Sound.{are_rows_stored}
use Rattle.gdp_printer.proofs.blocks.put_rows.Given as goal

abbrev pub invariant-loop-row : goal.invariant-loop-row
invariant-loop-row l = record {
  text : l.text ++ text_of (map (row_line (model_tree l.model)) (drop l.row-index l.rows)) ≡ l.fn.text ++ text_of (map (row_line (model_tree l.model)) l.rows);
  stored : are_rows_stored (drop l.row-index l.rows) ≡ are_rows_stored l.rows;
}
