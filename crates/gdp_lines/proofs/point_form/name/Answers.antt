use Rattle.gdp_lines.proofs.NameWords.{no_text_no_name}
use Rattle.gdp_lines.proofs.point_form.name.Goals as goal

pub returns-in_default : goal.returns-in_default
returns-in_default c = no_text_no_name c.args.word.now c.in_default.ensures.cases.0
