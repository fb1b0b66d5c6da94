-- Laws of answers and their texts. Each is the contract of a function of `laws`.
use Rattle.std.specs.Prelude.{◌≡◌, ℕ, List}
use Rattle.answers.specs.declared.answer.Answer.{Answer}
use Rattle.cert_grammar.specs.Answers.{answer_text_of}
use Rattle.cert_grammar.specs.Laws.{IsAnswer}

-- two answers with one text are one answer
abbrev pub OneAnswer : Type 0
OneAnswer = (names booleans : List (List ℕ)) (a b : Answer) → IsAnswer names booleans a → IsAnswer names booleans b → answer_text_of names booleans a ≡ answer_text_of names booleans b → a ≡ b
