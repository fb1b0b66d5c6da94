use Rattle.std.proofs.Common.{◌≡◌, drop}
use Rattle.gdp_tables.specs.Keywords.{keywords_of, is_keyword}
use Rattle.gdp_tables.proofs.words.is_keyword.Given as goal

abbrev pub invariant-loop-keyword : goal.invariant-loop-keyword
invariant-loop-keyword l = is_keyword l.fold l.word (keywords_of (drop l.keyword-index l.words)) ≡ is_keyword l.fold l.word (keywords_of l.words)
