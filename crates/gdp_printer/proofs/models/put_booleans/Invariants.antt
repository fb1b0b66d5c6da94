use Rattle.std.proofs.Common.{◌≡◌, ◌++◌, drop, map}
use Rattle.gdp_grammar.specs.Canonical.{boolean_line, free_from}
use Rattle.text_grammar.specs.Printing.{text_of}
use Rattle.gdp_printer.proofs.models.put_booleans.Given as goal

abbrev pub invariant-loop-place : goal.invariant-loop-place
invariant-loop-place l =
    l.text ++ text_of (map boolean_line (free_from l.place l.ids (drop l.place l.booleans)))
    ≡ l.fn.text ++ text_of (map boolean_line (free_from 0 l.ids l.booleans))
