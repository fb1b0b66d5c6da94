use Rattle.std.proofs.Common.{◌≡◌, unsigned_abs}
use Rattle.std.proofs.lemmas.Int.{to_z-of_z}
use Rattle.fractions.proofs.divisors.gcd.Goals as goal

pub returns : goal.returns
returns c =
    let fits_a = c.ranges.a in
    let fits_b = c.ranges.b in
    let left : c.unsigned_abs.result ≡ unsigned_abs c.args.a = simp to_z-of_z at c.unsigned_abs.ensures.value in
    let right : c.unsigned_abs-2.result ≡ unsigned_abs c.args.b = simp to_z-of_z at c.unsigned_abs-2.ensures.value in
    rw (left, right) at c.gcd_of_magnitudes.ensures
