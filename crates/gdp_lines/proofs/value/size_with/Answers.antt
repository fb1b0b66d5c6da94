use Rattle.text_grammar.specs.Digits.{value_after}
use Rattle.gdp_lines.proofs.Values.{past_with}
use Rattle.gdp_lines.proofs.value.size_with.Goals as goal

pub returns-in-None : goal.returns-in-None
returns-in-None c = past_with (value_after 0 c.args.digits.now) c.args.places.now c.in-None.ensures
