-- What a line's reader makes of a refusal of the builder.
use Rattle.model_tree.specs.declared.errors.BuildError.{BuildError}
use Rattle.model_tree.specs.declared.errors.BuildError.TheVariants as refusal
use Rattle.gdp_grammar.specs.Reading.{cause_of}
use Rattle.gdp_lines.specs.declared.fault.LineError.{LineError}
use Rattle.gdp_lines.specs.declared.fault.LineError.TheVariants.{Refused, Memory}

-- the line's error: memory ran out, or the cause of the refusal
abbrev pub line_error : BuildError → LineError
line_error refusal.Memory = Memory
line_error refusal = Refused (cause_of refusal)
