use Rattle.std.proofs.Common.{◌≡◌, drop}
use Rattle.gdp_tables.specs.Keywords.{keywords_of, first_code, spelled_by}
use Rattle.gdp_tables.proofs.words.code_in.Given as goal

abbrev pub invariant-loop-keyword : goal.invariant-loop-keyword
invariant-loop-keyword l = first_code (spelled_by l.fold l.word (keywords_of (drop l.keyword-index l.words))) ≡ first_code (spelled_by l.fold l.word (keywords_of l.words))
