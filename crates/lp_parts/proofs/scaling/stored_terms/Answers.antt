use Rattle.lp_parts.proofs.KeptTerms.{term_fits}
use Rattle.lp_parts.proofs.scaling.stored_terms.Goals as goal

pub push_term-requires : goal.push_term-requires
push_term-requires c = term_fits c.args.terms.now c.terms.term-index c.term-item.result c.requires.ids c.terms-test.true c.term-item.is
