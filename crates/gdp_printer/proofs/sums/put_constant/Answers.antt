use Rattle.std.proofs.Common.{pos, ap, ◌∙◌, ◌≢◌, of_z}
use Rattle.std.proofs.lemmas.Int.{to_z-of_z}
use mir.Syntax.{w128}
use Rattle.gdp_grammar.specs.Lowest.{over}
use Rattle.gdp_printer.proofs.Texts.{on_ok, constant_put}
use Rattle.gdp_printer.proofs.sums.put_constant.Goals as goal

pub returns : goal.returns
returns c =
    let q = rw (to_z-of_z w128 c.args.constant c.ranges.constant, to_z-of_z w128 c.args.scale c.ranges.scale) at c.quotient-constant.ensures in
    let other : c.quotient-constant.result.num ≢ pos 0 = λ z. c.if-num-eq0.false (ap (λ x. of_z w128 x) (c.num.ensures ∙ z)) in
    on_ok c.put_signed.result
    (λ e. constant_put c.quotient-constant.result (over c.args.scale c.args.constant) c.args.text.now c.put_signed.new.text q other e)
    c.put_signed.ensures
