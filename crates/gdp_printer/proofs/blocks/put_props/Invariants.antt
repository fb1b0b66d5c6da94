use Rattle.std.proofs.Common.{◌≡◌, ◌++◌, drop, map}
use Rattle.model_tree.specs.Values.{model_tree}
use Rattle.model_tree.specs.View.{props_of}
use Rattle.gdp_grammar.specs.Canonical.{logic_line}
use Rattle.text_grammar.specs.Printing.{text_of}
use Rattle.gdp_printer.proofs.blocks.put_props.Given as goal

abbrev pub invariant-loop-prop : goal.invariant-loop-prop
invariant-loop-prop l =
    l.text ++ text_of (map (logic_line (model_tree l.model)) (props_of (drop l.prop-index l.props))) ≡ l.fn.text ++ text_of (map (logic_line (model_tree l.model)) (props_of l.props))
