use Rattle.std.proofs.Common.{◌≡◌, ◌∙◌, ℤ, pos, ap, rules, to_z, of_z}
use Rattle.std.specs.Int.{w128}
use Rattle.fractions.specs.Fraction.{Fraction}
use Rattle.gdp_grammar.proofs.Euclid.{whole_only}
use Rattle.model_maker.proofs.calls.whole.Goals as goal

over_one : ℤ → Fraction
over_one n = record { num = n; den = pos 1 }

pub returns : goal.returns
unfolding over_one
returns c =
    let same : to_z w128 (of_z w128 c.from.result) ≡ pos c.args.number = search rules in
    whole_only _ _ c.reduced.ensures ∙ ap over_one same
