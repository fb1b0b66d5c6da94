-- What the reader's tokens spell.
use Rattle.std.specs.Prelude.{Bool, true, false}
use Rattle.lp_grammar.specs.Tokens as text
use Rattle.lp_tokens.specs.declared.token.Exponent.{Exponent}
use Rattle.lp_tokens.specs.declared.token.Numeral.{Numeral}
use Rattle.lp_tokens.specs.declared.token.Token.{Token}
use Rattle.lp_tokens.specs.declared.token.Token.TheVariants.{Name, Number, Sign, Compare, Colon, Barred, Stray}

-- an exponent
abbrev pub exponent : Exponent → text.Exponent
exponent e = record { is_negative = e.is_negative; digits = e.digits.now }

-- how the number is spelled
abbrev pub numeral : Numeral → text.Numeral
numeral n = record { digits = n.digits.now; places = n.places.now; exponent = exponent n.exponent }

-- the token of the text
abbrev pub piece : Token → text.Token
piece (Name name) = text.Name name.now
piece (Number n) = text.Number (numeral n)
piece (Sign is_negative) = text.Sign is_negative
piece (Compare rel) = text.Compare rel
piece Colon = text.Colon
piece Barred = text.Barred
piece Stray = text.Stray

-- the token is a colon
abbrev pub is_colon_piece : text.Token → Bool
is_colon_piece text.Colon = true
is_colon_piece _ = false
