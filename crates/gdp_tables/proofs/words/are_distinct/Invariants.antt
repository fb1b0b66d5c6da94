use Rattle.std.proofs.Common.{◌≡◌, drop}
use Rattle.gdp_tables.specs.Keywords.{keywords_of, are_distinct}
use Rattle.gdp_tables.proofs.words.are_distinct.Given as goal

abbrev pub invariant-loop-place : goal.invariant-loop-place
invariant-loop-place l = are_distinct l.fold (keywords_of (drop l.place l.words)) ≡ are_distinct l.fold (keywords_of l.words)
