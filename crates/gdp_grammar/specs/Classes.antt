-- Classes of bytes, and the front of a text that belongs to a class.
use Rattle.std.specs.Prelude.{ℕ, Bool, not, ◌==◌, List}
use Rattle.text_grammar.specs.Bytes.{is_blank, is_inline, is_solid, front as bytes_front, rest as bytes_rest}
use Rattle.model_tree.specs.Names.{begins_name, continues_name, is_digit}
use Rattle.gdp_grammar.specs.declared.class.Class.{Class}
use Rattle.gdp_grammar.specs.declared.class.Class.TheVariants as class

-- the byte belongs to the class
abbrev pub belongs : Class → ℕ → Bool
belongs class.Line b = is_inline b
belongs class.Content b = not (b == 35)
belongs class.Blank b = is_blank b
belongs class.Word b = is_solid b
belongs class.Digit b = is_digit b
belongs class.Start b = begins_name b
belongs class.Name b = continues_name b

-- the bytes at the front that belong to the class
abbrev pub front : Class → List ℕ → List ℕ
front class bytes = bytes_front (belongs class) bytes

-- what follows the front
abbrev pub rest : Class → List ℕ → List ℕ
rest class bytes = bytes_rest (belongs class) bytes
