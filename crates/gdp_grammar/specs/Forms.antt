-- The forms of lines, by their tokens.
use Rattle.std.specs.Prelude.{ℕ, zero, suc, Bool, true, false, not, ◌&&◌, List, [], ◌∷◌, length, drop, Option, Some, None, Result, Ok, Err, if◌then◌else◌, codes}
use Rattle.std.specs.Str.{bytes_eq}
use Rattle.lp_rows.specs.declared.kinds.Kind.{Kind}
use Rattle.lp_rows.specs.declared.kinds.Kind.TheVariants as kind
use Rattle.lp_rows.specs.declared.kinds.Rel.{Rel}
use Rattle.lp_rows.specs.declared.kinds.Rel.TheVariants as rel
use Rattle.lp_rows.specs.declared.kinds.Sense.{Sense}
use Rattle.lp_rows.specs.declared.kinds.Sense.TheVariants.{Min, Max}
use Rattle.model_tree.specs.declared.tree.Mode.{Mode}
use Rattle.model_tree.specs.declared.tree.Mode.TheVariants as mode
use Rattle.gdp_grammar.specs.declared.cause.ReadCause.{ReadCause}
use Rattle.gdp_grammar.specs.declared.cause.ReadCause.TheVariants as cause
use Rattle.gdp_grammar.specs.declared.symbol.Symbol.TheVariants.{Plus, Minus, AtMost, AtLeast, Equal}
use Rattle.text_grammar.specs.Outcomes.{◌>>=◌}
use Rattle.gdp_grammar.specs.Keywords.{is_reserved}
use Rattle.gdp_grammar.specs.Numerals.{Numeral, Whole}
use Rattle.gdp_grammar.specs.Tokens.{Piece, Word, Number, Mark}

-- a number with its sign
pub record Signed : Type 0 where
  pub is_negative : Bool
  pub size : Numeral

-- a term of a sum: its sign, its number where one is written, and the name of its variable
pub record Summand : Type 0 where
  pub is_negative : Bool
  pub size : Option Numeral
  pub name : List ℕ

-- A line, by what it says. That of a proposition has its tokens, which are read where it is added.
pub data Form : Type 0 where
  Var : (name : List ℕ) (kind : Kind) (low high : Option Signed) → Form
  Boolean : (name : List ℕ) → Form
  Goal : (sense : Sense) (sum : List Summand) (constant : Option Signed) → Form
  Row : (sum : List Summand) (rel : Rel) (right : Signed) → Form
  Logic : (tokens : List Piece) → Form
  Disjunction : (mode : Mode) → Form
  Disjunct : (name : List ℕ) → Form
  End : Form

-- nothing is left
abbrev pub ended : List Piece → Result (Unit {0}) ReadCause
ended [] = Ok tt
ended (p ∷ ps) = Err cause.Form

-- a name
abbrev pub name_of : List Piece → Result (List ℕ × List Piece) ReadCause
name_of (Word word ∷ ps) = if is_reserved word then Err cause.Form else Ok (word, ps)
name_of _ = Err cause.Form

-- `real` or `int`
abbrev pub kind_of : List Piece → Result (Kind × List Piece) ReadCause
kind_of (Word word ∷ ps) =
    if bytes_eq word (codes "real") then Ok (kind.Real, ps)
    else (if bytes_eq word (codes "int") then Ok (kind.Int, ps) else Err cause.Form)
kind_of _ = Err cause.Form

-- a number
abbrev pub numeral_of : List Piece → Result (Numeral × List Piece) ReadCause
numeral_of (Number number ∷ ps) = Ok (number, ps)
numeral_of _ = Err cause.Form

-- an optional sign: whether it is a minus
abbrev pub sign_of : List Piece → Bool × List Piece
sign_of (Mark Plus ∷ ps) = (false, ps)
sign_of (Mark Minus ∷ ps) = (true, ps)
sign_of ps = (false, ps)

-- a number with an optional sign
unfoldable pub signed_of : List Piece → Result (Signed × List Piece) ReadCause
signed_of ps = do
  size ← numeral_of (sign_of ps).1
  Ok (record { is_negative = (sign_of ps).0; size = size.0 }, size.1)

-- a low bound after its sign: a number, or `inf` behind a minus for none
unfoldable pub low_after : Bool → List Piece → Result (Option Signed × List Piece) ReadCause
low_after true (Word word ∷ ps) = if bytes_eq word (codes "inf") then Ok (None, ps) else Err cause.Form
low_after is_negative ps = do
  size ← numeral_of ps
  Ok (Some (record { is_negative = is_negative; size = size.0 }), size.1)

-- a low bound: a number, or `-inf` for none
abbrev pub low_of : List Piece → Result (Option Signed × List Piece) ReadCause
low_of ps = low_after (sign_of ps).0 (sign_of ps).1

-- a high bound: a number, or `inf` for none
unfoldable pub high_of : List Piece → Result (Option Signed × List Piece) ReadCause
high_of (Word word ∷ ps) = if bytes_eq word (codes "inf") then Ok (None, ps) else Err cause.Form
high_of ps = do
  high ← signed_of ps
  Ok (Some high.0, high.1)

-- `<=`, `>=` or `=`
abbrev pub rel_of : List Piece → Result (Rel × List Piece) ReadCause
rel_of (Mark AtMost ∷ ps) = Ok (rel.AtMost, ps)
rel_of (Mark AtLeast ∷ ps) = Ok (rel.AtLeast, ps)
rel_of (Mark Equal ∷ ps) = Ok (rel.Equal, ps)
rel_of _ = Err cause.Form

-- a term, after its sign
unfoldable pub summand_of : Bool → List Piece → Result (Summand × List Piece) ReadCause
summand_of is_negative (Number number ∷ ps) = do
  name ← name_of ps
  Ok (record { is_negative = is_negative; size = Some number; name = name.0 }, name.1)
summand_of is_negative ps = do
  name ← name_of ps
  Ok (record { is_negative = is_negative; size = None; name = name.0 }, name.1)

-- a number is all that is left
abbrev pub number_alone : List Piece → Bool
number_alone (Number number ∷ []) = true
number_alone _ = false

-- The sign between two terms, if one comes. A sign before a number that ends the line joins no term: it is that of a
-- goal's constant.
abbrev pub joint_of : List Piece → Option Bool
joint_of (Mark Plus ∷ ps) = if number_alone ps then None else Some false
joint_of (Mark Minus ∷ ps) = if number_alone ps then None else Some true
joint_of _ = None

-- the number is spelled `0`
abbrev pub is_nought : Numeral → Bool
is_nought (Whole digits) = bytes_eq digits (codes "0")
is_nought _ = false

-- a term that no sign follows ends the sum; after a sign the others come
abbrev pub joined : Summand → Option Bool → List Piece → (Bool → List Piece → Result (List Summand × List Piece) ReadCause) → Result (List Summand × List Piece) ReadCause
joined first None ps others = Ok (first ∷ [], ps)
joined first (Some is_negative) ps others = do
  more ← others is_negative (drop 1 ps)
  Ok (first ∷ more.0, more.1)

-- at most n terms joined by signs, the first with this sign
abbrev pub summands_within : ℕ → Bool → List Piece → Result (List Summand × List Piece) ReadCause
summands_within zero is_negative ps = Err cause.Form
summands_within (suc n) is_negative ps = do
  first ← summand_of is_negative ps
  joined first.0 (joint_of first.1) first.1 (λ sign rest. summands_within n sign rest)

-- terms joined by signs, the first with an optional sign
unfoldable pub summands_of : List Piece → Result (List Summand × List Piece) ReadCause
summands_of ps = summands_within (length (sign_of ps).1) (sign_of ps).0 (sign_of ps).1

-- a name comes next
abbrev pub word_next : List Piece → Bool
word_next (Word word ∷ ps) = true
word_next _ = false

-- `0` comes next, and no name after it
abbrev pub nought_next : List Piece → Bool
nought_next (Number number ∷ ps) = is_nought number && not (word_next ps)
nought_next _ = false

-- a sum: `0` alone, or terms
unfoldable pub sum_of : List Piece → Result (List Summand × List Piece) ReadCause
sum_of ps = if nought_next ps then Ok ([], drop 1 ps) else summands_of ps

-- `xor` or `or`
abbrev pub mode_of : List Piece → Result (Mode × List Piece) ReadCause
mode_of (Word word ∷ ps) =
    if bytes_eq word (codes "xor") then Ok (mode.Xor, ps)
    else (if bytes_eq word (codes "or") then Ok (mode.Or, ps) else Err cause.Form)
mode_of _ = Err cause.Form

-- a number that ends the line, after its sign
abbrev pub last_number : Bool → List Piece → Result (Option Signed) ReadCause
last_number is_negative ps = do
  size ← numeral_of ps
  end ← ended size.1
  Ok (Some (record { is_negative = is_negative; size = size.0 }))

-- a goal's constant: nothing, or a sign and a number
unfoldable pub constant_of : List Piece → Result (Option Signed) ReadCause
constant_of [] = Ok None
constant_of (Mark Plus ∷ ps) = last_number false ps
constant_of (Mark Minus ∷ ps) = last_number true ps
constant_of _ = Err cause.Form

-- var NAME KIND LOW HIGH
unfoldable pub var_of : List Piece → Result Form ReadCause
var_of ps = do
  name ← name_of ps
  kind ← kind_of name.1
  low ← low_of kind.1
  high ← high_of low.1
  end ← ended high.1
  Ok (Var name.0 kind.0 low.0 high.0)

-- boolean NAME
unfoldable pub boolean_of : List Piece → Result Form ReadCause
boolean_of ps = do
  name ← name_of ps
  end ← ended name.1
  Ok (Boolean name.0)

-- a goal that is a number alone
unfoldable pub number_goal_of : Sense → List Piece → Result Form ReadCause
number_goal_of sense ps = do
  constant ← signed_of ps
  Ok (Goal sense [] (Some constant.0))

-- a goal of terms, with a constant or without
unfoldable pub terms_goal_of : Sense → List Piece → Result Form ReadCause
terms_goal_of sense ps = do
  sum ← summands_of ps
  constant ← constant_of sum.1
  Ok (Goal sense sum.0 constant)

-- min GOAL or max GOAL
abbrev pub goal_of : Sense → List Piece → Result Form ReadCause
goal_of sense ps = if number_alone (sign_of ps).1 then number_goal_of sense ps else terms_goal_of sense ps

-- row SUM REL SIGNED
unfoldable pub row_of : List Piece → Result Form ReadCause
row_of ps = do
  sum ← sum_of ps
  rel ← rel_of sum.1
  right ← signed_of rel.1
  end ← ended right.1
  Ok (Row sum.0 rel.0 right.0)

-- disjunction MODE
unfoldable pub disjunction_of : List Piece → Result Form ReadCause
disjunction_of ps = do
  mode ← mode_of ps
  end ← ended mode.1
  Ok (Disjunction mode.0)

-- disjunct NAME
unfoldable pub disjunct_of : List Piece → Result Form ReadCause
disjunct_of ps = do
  name ← name_of ps
  end ← ended name.1
  Ok (Disjunct name.0)

-- end
unfoldable pub end_of : List Piece → Result Form ReadCause
end_of ps = do
  end ← ended ps
  Ok End

-- the form of a line after its first word
abbrev pub form_after : List ℕ → List Piece → Result Form ReadCause
form_after word ps =
    if bytes_eq word (codes "var") then var_of ps
    else (if bytes_eq word (codes "boolean") then boolean_of ps
    else (if bytes_eq word (codes "min") then goal_of Min ps
    else (if bytes_eq word (codes "max") then goal_of Max ps
    else (if bytes_eq word (codes "row") then row_of ps
    else (if bytes_eq word (codes "logic") then Ok (Logic ps)
    else (if bytes_eq word (codes "disjunction") then disjunction_of ps
    else (if bytes_eq word (codes "disjunct") then disjunct_of ps
    else (if bytes_eq word (codes "end") then end_of ps
    else Err cause.Form))))))))

-- the form of a line
abbrev pub form_of : List Piece → Result Form ReadCause
form_of (Word word ∷ ps) = form_after word ps
form_of _ = Err cause.Form
