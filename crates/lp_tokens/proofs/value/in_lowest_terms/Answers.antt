use Rattle.std.proofs.Common.{to_z-of_z}
use Rattle.lp_tokens.proofs.Made.{made}
use Rattle.lp_tokens.proofs.value.in_lowest_terms.Goals as goal

pub returns : goal.returns
returns c = made c.args.over c.args.under c.requires.over c.requires.under c.reduced.result (simp (to_z-of_z c.ranges.over, to_z-of_z c.ranges.under) at c.reduced.ensures)
