use Rattle.gdp_grammar.proofs.Unmarked.{canonical_ignores_marks}
use Rattle.gdp_grammar.proofs.canonical_laws.canonical_ignores_marks.Goals as goal

pub returns : goal.returns
returns c = canonical_ignores_marks
