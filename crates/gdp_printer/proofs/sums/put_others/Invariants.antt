use Rattle.std.proofs.Common.{◌≡◌, ◌++◌, drop}
use Rattle.model_tree.specs.Values.{model_tree}
use Rattle.gdp_grammar.specs.Canonical.{var_names, terms_over, further_terms}
use Rattle.text_grammar.specs.Printing.{spaced}
use Rattle.gdp_printer.proofs.sums.put_others.Given as goal

abbrev pub invariant-loop-term : goal.invariant-loop-term
invariant-loop-term l =
    l.text ++ spaced (further_terms (var_names (model_tree l.model)) (terms_over l.scale (drop l.term-index l.terms)))
    ≡ l.fn.text ++ spaced (further_terms (var_names (model_tree l.model)) (terms_over l.scale l.terms))
