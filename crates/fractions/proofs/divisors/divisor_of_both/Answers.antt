use Rattle.std.proofs.Common.{FitsSigned, unsigned_abs, rules}
use Rattle.std.specs.Int.{w128}
use Rattle.std.proofs.lemmas.Int.{to_z-of_z}
use Rattle.fractions.proofs.Reduction.{gcd_positive, gcd_at_most}
use Rattle.fractions.proofs.divisors.divisor_of_both.Goals as goal

pub with_sign_of-requires-clause-some : goal.with_sign_of-requires-clause-some
with_sign_of-requires-clause-some c =
    let fits_a = c.ranges.a in
    let fits_b = c.ranges.b in
    gcd_positive c.args.a (unsigned_abs c.args.b) c.gcd.result c.requires (simp to_z-of_z at c.gcd.ensures)

pub with_sign_of-requires-clause-fits : goal.with_sign_of-requires-clause-fits
with_sign_of-requires-clause-fits c =
    let fits_a = c.ranges.a in
    let fits_b = c.ranges.b in
    simp to_z-of_z (gcd_at_most c.args.a (unsigned_abs c.args.b) c.gcd.result c.requires (simp to_z-of_z at c.gcd.ensures))

pub returns-clause-divisor : goal.returns-clause-divisor
returns-clause-divisor c =
    let fits_a = c.ranges.a in
    let fits_b = c.ranges.b in
    let fits_result : FitsSigned w128 c.with_sign_of.result = search rules in
    simp to_z-of_z (rw c.with_sign_of.ensures.size (simp to_z-of_z at c.gcd.ensures))
