-- A text spells at most one model, or has one first bad line, and never both: the laws of every grammar of lines.
use Rattle.text_grammar.specs.Grammars.{IsExact}
use Rattle.text_grammar.specs.Lines.{lines_of}
use Rattle.text_grammar.proofs.GrammarsLemmas.{is_exact}
use Rattle.gdp_grammar.specs.Laws.{OneModel, SpelledOrBad, NeverBoth, OneFirstBad}
use Rattle.gdp_grammar.specs.Spelling.{model_grammar}

exact : IsExact model_grammar
exact = is_exact model_grammar

pub one_model : OneModel
one_model text = exact.one_value (lines_of text)

pub spelled_or_bad : SpelledOrBad
spelled_or_bad text = exact.spelled_or_bad (lines_of text)

pub never_both : NeverBoth
never_both text = exact.never_both (lines_of text)

pub one_first_bad : OneFirstBad
one_first_bad text = exact.one_first_bad (lines_of text)
