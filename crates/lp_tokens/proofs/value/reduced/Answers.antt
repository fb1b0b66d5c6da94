use Rattle.lp_tokens.proofs.Lowest.{reduced_by, divisor_some, under_some, stays_bounded}
use Rattle.lp_tokens.proofs.value.reduced.Goals as goal

pub nonzero_div-result : goal.nonzero_div-result
nonzero_div-result c = divisor_some c.args.over c.args.under _ c.requires.some c.divisor-common.ensures

pub nonzero_div-result-2 : goal.nonzero_div-result-2
nonzero_div-result-2 c = divisor_some c.args.over c.args.under _ c.requires.some c.divisor-common.ensures

pub returns-clause-parts : goal.returns-clause-parts
returns-clause-parts c = reduced_by c.args.over c.args.under c.divisor-common.result c.divisor-common.ensures

pub returns-clause-some : goal.returns-clause-some
returns-clause-some c = under_some c.args.over c.args.under c.divisor-common.result c.requires.some c.divisor-common.ensures

pub returns-clause-bounded : goal.returns-clause-bounded
returns-clause-bounded c = stays_bounded c.args.over c.args.under c.divisor-common.result c.requires.some c.divisor-common.ensures
