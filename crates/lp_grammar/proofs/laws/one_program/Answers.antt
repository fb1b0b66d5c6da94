use Rattle.text_grammar.proofs.GrammarsLemmas.{is_exact}
use Rattle.lp_grammar.specs.Reading.{lp_grammar}
use Rattle.lp_grammar.proofs.laws.one_program.Goals as goal

pub returns : goal.returns
returns c = (is_exact lp_grammar).one_value
