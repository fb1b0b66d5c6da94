use Rattle.std.proofs.Common.{◌≡◌, ◌++◌, drop}
use Rattle.model_tree.specs.Values.{model_tree}
use Rattle.propositions.specs.View.{prop_trees}
use Rattle.gdp_grammar.specs.Canonical.{boolean_names}
use Rattle.gdp_grammar.specs.PropNames.{all_named_in, arguments_text}
use Rattle.gdp_printer.proofs.PropTexts.{text_from}
use Rattle.gdp_printer.proofs.props.+props.Given as goal

abbrev pub invariant-put_list-loop-prop : goal.invariant-put_list-loop-prop
invariant-put_list-loop-prop l =
    l.text ++ text_from l.is_first (all_named_in (boolean_names (model_tree l.model)) (prop_trees (drop l.prop-index l.props)))
    ≡ l.initial.text ++ arguments_text (all_named_in (boolean_names (model_tree l.model)) (prop_trees l.props))
