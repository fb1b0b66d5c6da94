-- Propositions as a text spells them: by the names of Booleans and the words of operators.
use Rattle.std.specs.Prelude.{ℕ, suc, Bool, true, not, ◌&&◌, List, [], ◌∷◌, ◌++◌, codes, nat_le, ◌==◌}
use Rattle.propositions.specs.Tree.{PairConnective, implies, equivalent, xor}
use Rattle.gdp_grammar.specs.declared.symbol.Symbol.TheVariants.{Open, Close, Comma}
use Rattle.gdp_grammar.specs.Keywords.{is_reserved}
use Rattle.gdp_grammar.specs.Numerals.{Whole}
use Rattle.gdp_grammar.specs.Tokens.{Piece, Word, Number, Mark}

-- how a counting operator compares how many of its arguments are true with its number
pub data Counting : Type 0 where
  exactly : Counting
  at_least : Counting
  at_most : Counting

-- an operator: `not`, one of two arguments, `and`, `or`, or a counting one with the digits of its number
pub data Operator : Type 0 where
  negation : Operator
  pair : PairConnective → Operator
  all : Operator
  some : Operator
  counted : Counting → (digits : List ℕ) → Operator

mutual
  -- a proposition: the name of a Boolean, or an operator applied to arguments
  pub data NamedProp : Type 0 where
    named : (name : List ℕ) → NamedProp
    applied : Operator → NamedProps → NamedProp

  -- the arguments of an operator
  pub data NamedProps : Type 0 where
    no_arguments : NamedProps
    argument : NamedProp → NamedProps → NamedProps

-- the word of an operator of two arguments
abbrev pub pair_word : PairConnective → List ℕ
pair_word implies = codes "implies"
pair_word equivalent = codes "equivalent"
pair_word xor = codes "xor"

-- the word of a counting operator
abbrev pub counting_word : Counting → List ℕ
counting_word exactly = codes "exactly"
counting_word at_least = codes "atleast"
counting_word at_most = codes "atmost"

-- the tokens before the first argument: the operator's word, the parenthesis, and the number of a counting one
abbrev pub opening : Operator → List Piece
opening negation = Word (codes "not") ∷ Mark Open ∷ []
opening (pair c) = Word (pair_word c) ∷ Mark Open ∷ []
opening all = Word (codes "and") ∷ Mark Open ∷ []
opening some = Word (codes "or") ∷ Mark Open ∷ []
opening (counted c digits) = Word (counting_word c) ∷ Mark Open ∷ Number (Whole digits) ∷ Mark Comma ∷ []

-- the tokens that a proposition is written with: its arguments stand in parentheses, separated by commas
abbrev mutual
  pub pieces_of : NamedProp → List Piece
  pieces_of (named name) = Word name ∷ []
  pieces_of (applied o ps) = opening o ++ (pieces_of_arguments ps ++ Mark Close ∷ [])

  pub pieces_of_arguments : NamedProps → List Piece
  pieces_of_arguments no_arguments = []
  pieces_of_arguments (argument p ps) = pieces_of p ++ pieces_of_further ps

  pub pieces_of_further : NamedProps → List Piece
  pieces_of_further no_arguments = []
  pieces_of_further (argument p ps) = Mark Comma ∷ (pieces_of p ++ pieces_of_further ps)

-- how many arguments there are
abbrev pub argument_count : NamedProps → ℕ
argument_count no_arguments = 0
argument_count (argument p ps) = suc (argument_count ps)

-- the operator takes that many arguments: `not` one, `implies`, `equivalent` and `xor` two, and any other one or more
abbrev pub takes : Operator → ℕ → Bool
takes negation n = n == 1
takes (pair c) n = n == 2
takes all n = nat_le 1 n
takes some n = nat_le 1 n
takes (counted c digits) n = nat_le 1 n

-- The proposition has one of the forms: its names are none of the reserved words, and each operator has as many
-- arguments as it takes.
abbrev mutual
  pub is_formed : NamedProp → Bool
  is_formed (named name) = not (is_reserved name)
  is_formed (applied o ps) = takes o (argument_count ps) && are_formed ps

  pub are_formed : NamedProps → Bool
  are_formed no_arguments = true
  are_formed (argument p ps) = is_formed p && are_formed ps
