use Rattle.gdp_grammar.proofs.Worked.{worked_texts}
use Rattle.gdp_grammar.proofs.laws.worked_texts.Goals as goal

pub returns : goal.returns
returns c = worked_texts
