-- What the reader's tokens spell.
use Rattle.std.specs.Prelude.{ℕ, Bool, true, false, List, [], ◌∷◌, Option, Some, None}
use Rattle.gdp_grammar.specs.Numerals.{Numeral}
use Rattle.gdp_grammar.specs.Numerals as numeral
use Rattle.gdp_grammar.specs.Tokens.{Piece, tokens_of}
use Rattle.gdp_grammar.specs.Tokens as text
use Rattle.gdp_lines.specs.declared.token.Numeral.{Numeral as CodeNumeral}
use Rattle.gdp_lines.specs.declared.token.Numeral.TheVariants.{Whole, Fraction, Decimal}
use Rattle.gdp_lines.specs.declared.token.Token.{Token}
use Rattle.gdp_lines.specs.declared.token.Token.TheVariants.{Word, Number, Mark, Stray}

-- how the number is spelled
abbrev pub spelled : CodeNumeral → Numeral
spelled (Whole digits) = numeral.Whole digits.now
spelled (Fraction over under) = numeral.Fraction over.now under.now
spelled (Decimal digits places) = numeral.Decimal digits.now places.now

-- the token of the text
abbrev pub piece : Token → Piece
piece (Word word) = text.Word word.now
piece (Number number) = text.Number (spelled number)
piece (Mark symbol) = text.Mark symbol
piece Stray = text.Stray

-- the tokens that are left: the first, where there is one, and those of the bytes behind it
abbrev pub tokens_left : Option Token → List ℕ → List Piece
tokens_left None after = []
tokens_left (Some first) after = piece first ∷ tokens_of after

-- no token stands behind the first
abbrev pub is_last : List Piece → Bool
is_last [] = true
is_last (p ∷ []) = true
is_last (p ∷ ps) = false
