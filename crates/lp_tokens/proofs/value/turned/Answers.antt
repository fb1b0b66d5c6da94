use Rattle.std.proofs.Common.{◌∙◌, ap, neg_ℤ}
use Rattle.std.proofs.lemmas.Int.{to_z-of_z}
use Rattle.std.specs.Int.{w128}
use Rattle.lp_tokens.proofs.Made.{turned_part}
use Rattle.lp_tokens.proofs.value.turned.Goals as goal

pub returns : goal.returns
returns c =
    let num = to_z-of_z w128 c.num.result (record { sfits = c.num.type_inv }) ∙ c.num.ensures in
    let over = to_z-of_z w128 c.opposite.result (record { sfits = c.opposite.type_inv }) ∙ c.opposite.ensures ∙ ap neg_ℤ num in
    let under = to_z-of_z w128 c.den.result (record { sfits = c.den.type_inv }) ∙ c.den.ensures.den in
    turned_part c.args.fraction _ _ c.reduced.result over under c.den.ensures.lowest c.reduced.ensures
