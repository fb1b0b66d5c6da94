use Rattle.std.proofs.Common.{◌∙◌, arith}
use Rattle.std.proofs.lemmas.Int.{to_z-of_z}
use Rattle.std.specs.Int.{w128}
use Rattle.gdp_lines.proofs.Ratios.{no_ratio, ratio_made}
use Rattle.gdp_lines.proofs.value.ratio.Goals as goal

pub returns-then-under-eq0 : goal.returns-then-under-eq0
returns-then-under-eq0 c = no_ratio c.args.is_negative c.args.over c.args.under c.if-under-eq0.true

pub returns : goal.returns
returns c = ratio_made _ _ c.args.is_negative c.args.over c.args.under c.reduced.result
    (to_z-of_z w128 c.with_sign-over.result (record { sfits = c.with_sign-over.type_inv }) ∙ c.with_sign-over.ensures)
    (to_z-of_z w128 c.from.result (record { sfits = c.from.type_inv }) ∙ c.from.ensures)
    c.requires.over c.requires.under (omega arith) c.reduced.ensures
