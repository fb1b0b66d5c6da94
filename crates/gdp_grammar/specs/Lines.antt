-- The content of a line of a model or point text.
use Rattle.std.specs.Prelude.{ℕ, List}
use Rattle.gdp_grammar.specs.declared.class.Class.TheVariants as class
use Rattle.gdp_grammar.specs.Classes.{front}

-- a line without its comment
abbrev pub without_comment : List ℕ → List ℕ
without_comment line = front class.Content line
