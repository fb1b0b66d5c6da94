use Rattle.std.proofs.Common.{ℤ, pos, ap, ◌∙◌, to_z-of_z}
use Rattle.fractions.specs.Fraction.{Fraction}
use Rattle.gdp_grammar.proofs.Euclid.{whole_only}
use Rattle.gdp_lines.proofs.value.whole.Goals as goal

over_one : ℤ → Fraction
over_one n = record { num = n; den = pos 1 }

pub returns : goal.returns
unfolding over_one
returns c = whole_only _ _ c.reduced.ensures ∙ ap over_one (to_z-of_z c.ranges.number)
