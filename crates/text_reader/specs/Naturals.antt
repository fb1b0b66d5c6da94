-- Natural numbers among words.
use Rattle.std.specs.Prelude.{ℕ, ◌&&◌, nat_le, nat_lt, List, length, Option, Some, None, if◌then◌else◌}
use Rattle.std.specs.List.{list_all}
use Rattle.text_grammar.specs.Bytes.{is_digit}
use Rattle.text_grammar.specs.Digits.{value_of}

-- the number that a word of digits alone spells, zeros in front allowed, if it is at most this one
abbrev pub natural_of : ℕ → List ℕ → Option ℕ
natural_of greatest word = if (nat_lt 0 (length word) && list_all is_digit word) && nat_le (value_of word) greatest then Some (value_of word) else None
