use Rattle.gdp_grammar.proofs.SaidLines.{laid_out}
use Rattle.gdp_grammar.proofs.laws.laid_out.Goals as goal

pub returns : goal.returns
returns c = laid_out
