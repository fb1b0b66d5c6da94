-- The words that are no names.
use Rattle.std.specs.Prelude.{ℕ, Bool, List}
use Rattle.model_tree.specs.Names.{has_name, reserved_words}

-- a word that is no name
abbrev pub is_reserved : List ℕ → Bool
is_reserved word = has_name word reserved_words
