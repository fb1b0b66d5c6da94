use Rattle.text_grammar.proofs.GrammarsLemmas.{is_exact}
use Rattle.lp_grammar.specs.Reading.{lp_grammar}
use Rattle.lp_grammar.proofs.laws.never_both.Goals as goal

pub returns : goal.returns
returns c = (is_exact lp_grammar).never_both
