use Rattle.std.proofs.lemmas.Int.{to_z-of_z}
use Rattle.cert_lines.proofs.Lowest.{lowest_new}
use Rattle.cert_lines.proofs.value.lowest.Goals as goal

pub returns : goal.returns
returns c =
    let fits_num = c.ranges.num in
    let fits_den = c.ranges.den in
    lowest_new c.args.num c.args.den c.reduced.result c.requires (simp to_z-of_z at c.reduced.ensures)
