use Rattle.std.proofs.Common.{to_z-of_z}
use Rattle.gdp_grammar.proofs.Lowest.{over_only}
use Rattle.gdp_printer.proofs.numbers.quotient.Goals as goal

pub returns : goal.returns
returns c = over_only c.args.scale c.args.number _ c.requires (simp (to_z-of_z c.ranges.number, to_z-of_z c.ranges.scale) at c.reduced.ensures)
