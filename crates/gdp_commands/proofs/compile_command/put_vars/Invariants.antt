use Rattle.std.proofs.Common.{◌≡◌, ◌++◌, drop, map}
use Rattle.text_grammar.specs.Printing.{text_of}
use Rattle.gdp_commands.specs.Compile.{name_lines}
use Rattle.gdp_commands.proofs.compile_command.put_vars.Given as goal

abbrev pub invariant-loop-column : goal.invariant-loop-column
invariant-loop-column l =
    l.text ++ text_of (name_lines l.column (map (λ v. v.0) (drop l.column l.vars))) ≡ l.fn.text ++ text_of (name_lines 0 (map (λ v. v.0) l.vars))
