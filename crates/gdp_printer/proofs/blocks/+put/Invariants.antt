use Rattle.std.proofs.Common.{◌≡◌, ◌++◌, drop}
use Rattle.model_tree.specs.Values.{model_tree}
use Rattle.model_tree.specs.View.{disjuncts_of, disjunctions_of}
use Rattle.gdp_grammar.specs.Canonical.{disjunctions_lines, disjuncts_lines}
use Rattle.text_grammar.specs.Printing.{text_of}
use Rattle.model_tree.specs.Sound.{are_disjunctions_stored, are_disjuncts_stored}
use Rattle.gdp_printer.proofs.blocks.+put.Given as goal

abbrev pub invariant-put_disjunctions-loop-disjunction :
    goal.invariant-put_disjunctions-loop-disjunction
invariant-put_disjunctions-loop-disjunction l = record {
  text : l.text ++ text_of (disjunctions_lines (model_tree l.model) (disjunctions_of (drop l.disjunction-index l.disjunctions)))
      ≡ l.fn.text ++ text_of (disjunctions_lines (model_tree l.model) (disjunctions_of l.disjunctions));
  stored : are_disjunctions_stored (disjunctions_of (drop l.disjunction-index l.disjunctions)) ≡ are_disjunctions_stored (disjunctions_of l.disjunctions);
}

abbrev pub invariant-put_disjuncts-loop-disjunct : goal.invariant-put_disjuncts-loop-disjunct
invariant-put_disjuncts-loop-disjunct l = record {
  text : l.text ++ text_of (disjuncts_lines (model_tree l.model) (disjuncts_of (drop l.disjunct-index l.disjuncts)))
      ≡ l.fn.text ++ text_of (disjuncts_lines (model_tree l.model) (disjuncts_of l.disjuncts));
  stored : are_disjuncts_stored (disjuncts_of (drop l.disjunct-index l.disjuncts)) ≡ are_disjuncts_stored (disjuncts_of l.disjuncts);
}
