use Rattle.std.proofs.Common.{◌≡◌, ◌++◌, drop, map}
use Rattle.gdp_grammar.specs.Canonical.{var_line}
use Rattle.text_grammar.specs.Printing.{text_of}
use Rattle.gdp_printer.proofs.models.put_vars.Given as goal

abbrev pub invariant-loop-variable : goal.invariant-loop-variable
invariant-loop-variable l =
    l.text ++ text_of (map var_line (drop l.variable-index l.vars)) ≡ l.fn.text ++ text_of (map var_line l.vars)
