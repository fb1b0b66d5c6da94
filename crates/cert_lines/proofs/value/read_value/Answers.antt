use Rattle.std.proofs.Common.{◌≡◌, Ok}
use Rattle.std.proofs.lemmas.Int.{to_z-of_z}
use Rattle.fractions.proofs.Widths.{range_from_fits}
use Rattle.cert_grammar.specs.Claims.{spelled_value}
use Rattle.cert_lines.proofs.Lowest.{parts_fit, parts_lowest}
use Rattle.cert_lines.proofs.value.read_value.Goals as goal

pub lowest-requires : goal.lowest-requires
lowest-requires c =
    let p = c.in-Ok.num in
    let q = c.in-Ok.den in
    let e : Ok (record { num = p; den = q }) ≡ spelled_value c.args.word.now = c.in-Ok.ensures in
    let f = parts_fit c.args.word.now p q e in
    let fits_num = range_from_fits p f.0 in
    let fits_den = range_from_fits q f.1 in
    simp to_z-of_z (parts_lowest c.args.word.now p q e)
