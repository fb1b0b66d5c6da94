-- How the tokens of a proposition are read from left to right, however deep it is: what is open is kept on a stack.
use Rattle.std.specs.Prelude.{◌≡◌, ◌↔◌, ℕ, true, List, [], ◌∷◌, ◌++◌, length, Option, None, Some, Result, Ok, Err, if◌then◌else◌, codes, bytes_eq}
use Rattle.propositions.specs.Tree.{implies, equivalent, xor}
use Rattle.gdp_grammar.specs.declared.cause.ReadCause.{ReadCause}
use Rattle.gdp_grammar.specs.declared.cause.ReadCause.TheVariants as cause
use Rattle.gdp_grammar.specs.declared.symbol.Symbol.TheVariants.{Open, Close, Comma}
use Rattle.gdp_grammar.specs.Keywords.{is_reserved}
use Rattle.gdp_grammar.specs.Numerals.{Whole}
use Rattle.gdp_grammar.specs.PropTexts.{Counting, exactly, at_least, at_most, Operator, negation, pair, all, some, counted, NamedProp, named, applied, NamedProps, no_arguments, argument, pieces_of, takes, is_formed}
use Rattle.gdp_grammar.specs.Tokens.{Piece, Word, Number, Mark}

-- What is made of a proposition as it is read: of a name, of an operator when it is opened, of an opened one with one
-- more argument, and of an operator when it is closed, which fails where it doesn't take that many.
pub record Making (P O : Type 0) : Type 0 where
  pub of_name : List ℕ → P
  pub opened : Operator → O
  pub with_argument : O → P → O
  pub closed : O → Option P

-- a word that an operator begins with: that of an operator without a number, or of a counting one
pub data OperatorWord : Type 0 where
  plain : Operator → OperatorWord
  counting : Counting → OperatorWord

-- the operator that the word begins, if it begins one
abbrev pub operator_of : List ℕ → Option OperatorWord
operator_of word =
    if bytes_eq word (codes "not") then Some (plain negation)
    else (if bytes_eq word (codes "and") then Some (plain all)
    else (if bytes_eq word (codes "or") then Some (plain some)
    else (if bytes_eq word (codes "implies") then Some (plain (pair implies))
    else (if bytes_eq word (codes "equivalent") then Some (plain (pair equivalent))
    else (if bytes_eq word (codes "xor") then Some (plain (pair xor))
    else (if bytes_eq word (codes "exactly") then Some (counting exactly)
    else (if bytes_eq word (codes "atleast") then Some (counting at_least)
    else (if bytes_eq word (codes "atmost") then Some (counting at_most)
    else None))))))))

-- What comes next: a proposition, the parenthesis of an operator, the number of a counting one or the comma behind it,
-- or whatever follows this proposition.
pub data Place (P : Type 0) : Type 0 where
  wants : Place P
  opens : OperatorWord → Place P
  counts : Counting → Place P
  parts : Operator → Place P
  has : P → Place P

-- a name stands for itself, and a word of an operator opens one
abbrev pub after_word : {P O : Type 0} → Making P O → List ℕ → Option OperatorWord → Option (Place P)
after_word make word (Some operator) = Some (opens operator)
after_word make word None = if is_reserved word then None else Some (has (make.of_name word))

-- with this place on the stack, where there is one
abbrev pub on : {P O : Type 0} → List O → Option (Place P) → Option (List O × Place P)
on stack None = None
on stack (Some place) = Some (stack, place)

-- the operator is closed, where it may be
abbrev pub closing : {P O : Type 0} → List O → Option P → Option (List O × Place P)
closing stack None = None
closing stack (Some p) = Some (stack, has p)

-- what one token leads to, from what is open and the place, or that it may not stand there
abbrev pub step_of : {P O : Type 0} → Making P O → List O → Place P → Piece → Option (List O × Place P)
step_of make stack wants (Word word) = on stack (after_word make word (operator_of word))
step_of make stack (opens (plain operator)) (Mark Open) = Some (make.opened operator ∷ stack, wants)
step_of make stack (opens (counting c)) (Mark Open) = Some (stack, counts c)
step_of make stack (counts c) (Number (Whole digits)) = Some (stack, parts (counted c digits))
step_of make stack (parts operator) (Mark Comma) = Some (make.opened operator ∷ stack, wants)
step_of make (o ∷ os) (has p) (Mark Comma) = Some (make.with_argument o p ∷ os, wants)
step_of make (o ∷ os) (has p) (Mark Close) = closing os (make.closed (make.with_argument o p))
step_of make stack place piece = None

-- the tokens may end after a proposition with nothing open
abbrev pub ended_of : {P O : Type 0} → List O → Place P → Result P ReadCause
ended_of [] (has p) = Ok p
ended_of stack place = Err cause.Form

-- goes on from what a token leads to, where it may stand there
abbrev pub going_on : {P O : Type 0} → Option (List O × Place P) → (List O → Place P → Result P ReadCause) → Result P ReadCause
going_on None next = Err cause.Form
going_on (Some at) next = next at.0 at.1

-- what these tokens make, from what is open and the place
abbrev pub made_of : {P O : Type 0} → Making P O → List O → Place P → List Piece → Result P ReadCause
made_of make stack place [] = ended_of stack place
made_of make stack place (t ∷ ts) = going_on (step_of make stack place t) (λ os next. made_of make os next ts)

-- arguments in order
abbrev pub arguments : List NamedProp → NamedProps
arguments [] = no_arguments
arguments (p ∷ ps) = argument p (arguments ps)

-- the proposition of an operator with these arguments, if it takes that many
abbrev pub application : Operator × List NamedProp → Option NamedProp
application o = if takes o.0 (length o.1) then Some (applied o.0 (arguments o.1)) else None

-- a proposition by its names
abbrev pub by_names : Making NamedProp (Operator × List NamedProp)
by_names = record {
  of_name = λ name. named name;
  opened = λ operator. (operator, []);
  with_argument = λ o p. (o.0, o.1 ++ p ∷ []);
  closed = λ o. application o;
}

-- the proposition that tokens spell
unfoldable pub prop_of : List Piece → Result NamedProp ReadCause
prop_of ps = made_of by_names [] wants ps

-- Tokens are read as a proposition exactly where it has one of the forms and they are the tokens that it is written with;
-- all others have the cause Form.
pub record PropositionsRead : Type 0 where
  pub read : (ps : List Piece) (p : NamedProp) → (prop_of ps ≡ Ok p) ↔ ((ps ≡ pieces_of p) × (is_formed p ≡ true))
  pub refused : (ps : List Piece) (c : ReadCause) → prop_of ps ≡ Err c → c ≡ cause.Form
