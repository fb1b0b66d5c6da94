use Rattle.gdp_tables.specs.Keywords.{keywords_of}
use Rattle.gdp_tables.proofs.KeywordsLemmas.{one_at_most}
use Rattle.gdp_tables.proofs.words.Words.find.Goals as goal

pub returns-clause-one : goal.returns-clause-one
returns-clause-one g c =
    rw (← c.self.view_is, c.code_in.ensures) (one_at_most c.self.inside.fold c.args.word.now (keywords_of c.self.inside.table.now) c.self.invariant.0)
