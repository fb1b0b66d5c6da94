-- What the reader's operators and their words are, and their numbers.
use Rattle.std.specs.Prelude.{ℕ, ◌-◌, ◌^◌, min}
use Rattle.propositions.specs.Tree.{implies, equivalent, xor}
use Rattle.gdp_grammar.specs.PropReading as text
use Rattle.gdp_grammar.specs.PropTexts.{negation, pair, all, some, counted, exactly, at_least, at_most}
use Rattle.gdp_grammar.specs.PropTexts as text_of
use Rattle.gdp_grammar.specs.PropSizes.{number_in}
use Rattle.prop_reader.specs.declared.operator.Counting.{Counting}
use Rattle.prop_reader.specs.declared.operator.Counting.TheVariants.{Exactly, AtLeast, AtMost}
use Rattle.prop_reader.specs.declared.operator.Operator.{Operator}
use Rattle.prop_reader.specs.declared.operator.Operator.TheVariants.{Not, And, Or, Implies, Equivalent, Xor, Counted}
use Rattle.prop_reader.specs.declared.operator.OperatorWord.{OperatorWord}
use Rattle.prop_reader.specs.declared.operator.OperatorWord.TheVariants.{Plain, Number}

-- how it counts
abbrev pub counting_value : Counting → text_of.Counting
counting_value Exactly = exactly
counting_value AtLeast = at_least
counting_value AtMost = at_most

-- the operator
abbrev pub operator_value : Operator → text_of.Operator
operator_value Not = negation
operator_value And = all
operator_value Or = some
operator_value Implies = pair implies
operator_value Equivalent = pair equivalent
operator_value Xor = pair xor
operator_value (Counted c digits) = counted (counting_value c) digits.now

-- the word that an operator begins with
abbrev pub word_value : OperatorWord → text.OperatorWord
word_value (Plain o) = text.plain (operator_value o)
word_value (Number c) = text.counting (counting_value c)

-- a number as far as that of an operator goes
abbrev pub operator_end : ℕ → ℕ
operator_end n = min n (2 ^ 32 - 1)

-- the number of a counting operator, 0 of another
abbrev pub operator_number : text_of.Operator → ℕ
operator_number o = operator_end (number_in o)
