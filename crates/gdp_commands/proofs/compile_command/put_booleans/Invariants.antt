use Rattle.std.proofs.Common.{◌≡◌, ◌+◌, ◌++◌, drop, map}
use Rattle.text_grammar.specs.Printing.{text_of}
use Rattle.gdp_commands.specs.Compile.{name_lines}
use Rattle.gdp_commands.proofs.compile_command.put_booleans.Given as goal

abbrev pub invariant-loop-place : goal.invariant-loop-place
invariant-loop-place l =
    l.text ++ text_of (name_lines (l.first + l.place) (map (λ b. b.0) (drop l.place l.booleans))) ≡ l.fn.text ++ text_of (name_lines l.first (map (λ b. b.0) l.booleans))
