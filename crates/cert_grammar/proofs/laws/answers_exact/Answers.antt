use Rattle.text_grammar.proofs.GrammarsLemmas.{is_exact}
use Rattle.cert_grammar.specs.Answers.{answer_grammar}
use Rattle.cert_grammar.proofs.laws.answers_exact.Goals as goal

pub returns : goal.returns
returns c = λ names booleans. is_exact (answer_grammar names booleans)
