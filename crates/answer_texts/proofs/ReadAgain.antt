-- Laws of answers and their texts.
use Rattle.std.proofs.Common.{◌≡◌, ℕ, List, length, subst}
use Rattle.text_grammar.proofs.GrammarsLemmas.{is_exact}
use Rattle.cert_grammar.specs.Answers.{answer_grammar, answer_text_of, SpellsAnswer}
use Rattle.answers.specs.declared.answer.Answer.{Answer}
use Rattle.answers.specs.declared.claim.Claim.{Claim}
use Rattle.answers.specs.declared.claim.Claim.TheVariants.{Best, Empty, Endless}
use Rattle.cert_grammar.specs.Laws.{IsClaim}
use Rattle.cert_grammar.specs.ExactLines.{exact_lines}
use Rattle.cert_grammar.proofs.WrittenAnswers.{written_answer}
use Rattle.cert_reader.specs.declared.fault.CertError.{CertError}
use Rattle.cert_reader.specs.declared.fault.CertError.TheVariants as error
use Rattle.cert_reader.specs.AnswerReads.{IsAnswerRefusal}
use Rattle.cert_writer.specs.Lengths.{IsLong}
use Rattle.answer_texts.specs.Laws.{OneAnswer}

pub same_answer : (names booleans : List (List ℕ)) (text : List ℕ) (a b : Answer) → SpellsAnswer names booleans text a → SpellsAnswer names booleans text b → a ≡ b
same_answer names booleans text a b s t = (is_exact (answer_grammar names booleans)).one_value (exact_lines text) a b s t

pub never_bad : (names booleans : List (List ℕ)) (text : List ℕ) (a : Answer) (e : CertError) → SpellsAnswer names booleans text a → IsAnswerRefusal names booleans text e → e ≡ error.Memory
never_bad names booleans text a error.Memory s r = λ i. error.Memory
never_bad names booleans text a (error.At line cause) s r = absurd ((is_exact (answer_grammar names booleans)).never_both (exact_lines text) a line cause s r)

pub one_answer : OneAnswer
one_answer names booleans a b p q e =
    same_answer names booleans (answer_text_of names booleans b) a b (subst (λ (t : List ℕ). SpellsAnswer names booleans t a) e (written_answer names booleans a p)) (written_answer names booleans b q)

-- what is claimed has lists as long as they must be
pub claim_long : (names booleans : List (List ℕ)) (c : Claim) → IsClaim names booleans c → IsLong (length names) (length booleans) c
claim_long names booleans (Best point truths value nodes) is = (is.1.0.nums_long, is.1.0.truths_long)
claim_long names booleans (Empty nodes) is = tt
claim_long names booleans (Endless point truths ray) is = (is.0.nums_long, (is.0.truths_long, is.1.long))
