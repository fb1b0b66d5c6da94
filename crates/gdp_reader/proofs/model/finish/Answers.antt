use Rattle.gdp_reader.specs.Taking.{taken_of}
use Rattle.gdp_reader.proofs.EndsLemmas.{end_refused}
use Rattle.gdp_reader.proofs.model.finish.Goals as goal

pub returns : goal.returns
returns c = end_refused (taken_of c.args.taking) c.args.line c.in-Err.refusal c.from.result c.at.result c.if-not-taking.false c.in-Err.ensures.err.0 c.from.ensures c.at.ensures
