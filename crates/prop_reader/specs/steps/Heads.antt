-- What comes next of a proposition, as the reader takes it.
use Rattle.std.specs.Prelude.{ℕ, List, [], ◌∷◌, Option, None, Some, Result, Ok, Err, if◌then◌else◌}
use Rattle.gdp_grammar.specs.declared.cause.ReadCause.{ReadCause}
use Rattle.gdp_grammar.specs.declared.cause.ReadCause.TheVariants as cause
use Rattle.gdp_grammar.specs.declared.symbol.Symbol.TheVariants.{Open, Close, Comma}
use Rattle.text_grammar.specs.Outcomes.{◌>>=◌}
use Rattle.gdp_grammar.specs.Keywords.{is_reserved}
use Rattle.gdp_grammar.specs.Numerals.{Whole}
use Rattle.gdp_grammar.specs.PropReading.{OperatorWord, plain, counting, operator_of}
use Rattle.gdp_grammar.specs.PropTexts.{Operator, counted}
use Rattle.gdp_grammar.specs.Tokens.{Piece, Word, Number, Mark}
use Rattle.prop_reader.specs.declared.head.Head.{Head}
use Rattle.prop_reader.specs.declared.head.Head.TheVariants.{Name, Opens}
use Rattle.prop_reader.specs.declared.head.Joint.{Joint}
use Rattle.prop_reader.specs.declared.head.Joint.TheVariants.{End, Further, Closes}
use Rattle.prop_reader.specs.steps.Operators.{operator_value}

-- what a proposition begins with: its name, or its operator
pub data Beginning : Type 0 where
  of_name : (name : List ℕ) → Beginning
  of_operator : Operator → Beginning

abbrev pub head_value : Head → Beginning
head_value (Name word) = of_name word.now
head_value (Opens operator) = of_operator (operator_value operator)

-- what stands behind an opening parenthesis
abbrev pub past_open : List Piece → Result (List Piece) ReadCause
past_open (Mark Open ∷ ps) = Ok ps
past_open ps = Err cause.Form

-- what stands behind a comma
abbrev pub past_comma : List Piece → Result (List Piece) ReadCause
past_comma (Mark Comma ∷ ps) = Ok ps
past_comma ps = Err cause.Form

-- the digits of a whole number, and what stands behind them
abbrev pub digits_of : List Piece → Result (List ℕ × List Piece) ReadCause
digits_of (Number (Whole digits) ∷ ps) = Ok (digits, ps)
digits_of ps = Err cause.Form

-- the operator that began with this word, behind its parenthesis
abbrev pub opened_of : OperatorWord → List Piece → Result (Operator × List Piece) ReadCause
opened_of (plain operator) ps = Ok (operator, ps)
opened_of (counting c) ps = digits_of ps >>= λ digits. (past_comma digits.1 >>= λ rest. Ok (counted c digits.0, rest))

-- the operator that began with this word
abbrev pub opening_of : OperatorWord → List Piece → Result (Operator × List Piece) ReadCause
opening_of word ps = past_open ps >>= λ rest. opened_of word rest

-- what begins with this word
abbrev pub head_in : List ℕ → Option OperatorWord → List Piece → Result (Beginning × List Piece) ReadCause
head_in word (Some first) ps = opening_of first ps >>= λ o. Ok (of_operator o.0, o.1)
head_in word None ps = if is_reserved word then Err cause.Form else Ok (of_name word, ps)

-- what a proposition begins with
abbrev pub head_of : List Piece → Result (Beginning × List Piece) ReadCause
head_of (Word word ∷ ps) = head_in word (operator_of word) ps
head_of ps = Err cause.Form

-- what follows a proposition
abbrev pub joint_of : List Piece → Result (Joint × List Piece) ReadCause
joint_of [] = Ok (End, [])
joint_of (Mark Comma ∷ ps) = Ok (Further, ps)
joint_of (Mark Close ∷ ps) = Ok (Closes, ps)
joint_of ps = Err cause.Form

-- a proposition with nothing open is whole where nothing follows it
abbrev pub whole_at : {P : Type 0} → Joint → P → Result P ReadCause
whole_at End p = Ok p
whole_at Further p = Err cause.Form
whole_at Closes p = Err cause.Form
