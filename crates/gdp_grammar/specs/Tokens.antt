-- The tokens of a line.
use Rattle.std.specs.Prelude.{ℕ, ◌&&◌, ◌==◌, List, [], ◌∷◌, if◌then◌else◌}
use Rattle.text_grammar.specs.Lexers.{tokens_by}
use Rattle.gdp_grammar.specs.declared.class.Class.TheVariants as class
use Rattle.gdp_grammar.specs.declared.symbol.Symbol.{Symbol}
use Rattle.gdp_grammar.specs.declared.symbol.Symbol.TheVariants.{Plus, Minus, Open, Close, Comma, AtMost, AtLeast, Equal}
use Rattle.gdp_grammar.specs.Classes.{belongs, front, rest}
use Rattle.gdp_grammar.specs.Numerals.{Numeral, Whole, Fraction, Decimal}

-- A word is a name or a keyword. Stray is a byte that begins no token: it stands in no line form.
pub data Piece : Type 0 where
  Word : List ℕ → Piece
  Number : Numeral → Piece
  Mark : Symbol → Piece
  Stray : Piece

-- the number with these digits before what follows, and the rest
unfoldable pub numeral_of : List ℕ → List ℕ → Numeral × List ℕ
numeral_of digits [] = (Whole digits, [])
numeral_of digits (m ∷ []) = (Whole digits, m ∷ [])
numeral_of digits (m ∷ d ∷ ds) =
    if (m == 47) && belongs class.Digit d then (Fraction digits (front class.Digit (d ∷ ds)), rest class.Digit (d ∷ ds))
    else (if (m == 46) && belongs class.Digit d then (Decimal digits (front class.Digit (d ∷ ds)), rest class.Digit (d ∷ ds))
    else (Whole digits, m ∷ d ∷ ds))

-- the token of a number, and the rest
abbrev pub number_of : Numeral × List ℕ → Piece × List ℕ
number_of read = (Number read.0, read.1)

-- a symbol of two bytes, of which the second is `=`, and the rest
unfoldable pub double_of : Symbol → List ℕ → Piece × List ℕ
double_of symbol [] = (Stray, [])
double_of symbol (b ∷ bs) = if b == 61 then (Mark symbol, bs) else (Stray, b ∷ bs)

-- the token that begins with this byte and goes on with what follows, and the rest
unfoldable pub token_of : ℕ → List ℕ → Piece × List ℕ
token_of b bs =
    if belongs class.Start b then (Word (front class.Name (b ∷ bs)), rest class.Name (b ∷ bs))
    else (if belongs class.Digit b then number_of (numeral_of (front class.Digit (b ∷ bs)) (rest class.Digit (b ∷ bs)))
    else (if b == 43 then (Mark Plus, bs)
    else (if b == 45 then (Mark Minus, bs)
    else (if b == 40 then (Mark Open, bs)
    else (if b == 41 then (Mark Close, bs)
    else (if b == 44 then (Mark Comma, bs)
    else (if b == 61 then (Mark Equal, bs)
    else (if b == 60 then double_of AtMost bs
    else (if b == 62 then double_of AtLeast bs
    else (Stray, bs))))))))))

-- the tokens of a line; blanks between them are free
unfoldable pub tokens_of : List ℕ → List Piece
tokens_of line = tokens_by token_of line
